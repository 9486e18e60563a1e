-- `root::root` falls with n.
use Rattle.root.proofs.+root.Given as goal

abbrev pub decreases-root : goal.decreases-root
decreases-root l = l.n
