-- `session::runner::answered` meets its contract: each request by the call of its name. Assumes nothing.
use Rattle.memory_rules.specs.Calls.{Interest, SetState, MoveToTop, SetSublayer, SetModalLayer, done_by}
use Rattle.session.proofs.Calls.{called_by}
use Rattle.session.proofs.runner.answered.Goals as goal

pub returns-in-Want : goal.returns-in-Want
unfolding done_by
returns-in-Want c = rw (c.in-Want.is) (called_by c.args.m.now (Interest c.in-Want.id c.in-Want.layer) _ _ _ c.interested_in_focus.ensures c.done.ensures)

pub returns-in-Area : goal.returns-in-Area
unfolding done_by
returns-in-Area c = rw (c.in-Area.is) (called_by c.args.m.now (SetState c.in-Area.layer c.in-Area.state) _ _ _ c.set_state.ensures c.done-in-Area.ensures)

pub returns-in-Top : goal.returns-in-Top
unfolding done_by
returns-in-Top c = rw (c.in-Top.is) (called_by c.args.m.now (MoveToTop c.in-Top.layer) _ _ _ c.move_to_top.ensures c.done-in-Top.ensures)

pub returns-in-Sub : goal.returns-in-Sub
unfolding done_by
returns-in-Sub c = rw (c.in-Sub.is) (called_by c.args.m.now (SetSublayer c.in-Sub.parent c.in-Sub.child) _ _ _ c.set_sublayer.ensures c.done-in-Sub.ensures)

pub returns-in-Modal : goal.returns-in-Modal
unfolding done_by
returns-in-Modal c = rw (c.in-Modal.is) (called_by c.args.m.now (SetModalLayer c.in-Modal.layer) _ _ _ c.set_modal_layer.ensures c.done-in-Modal.ensures)
