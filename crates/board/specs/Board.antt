-- What the board's functions pass on as plain numbers. Definitions only.
use Rattle.std.specs.Prelude.{Bool, Float, Option, Some}
use Rattle.std.specs.Option.{unwrap_or}
use Rattle.area.specs.declared.AreaState.{AreaState}
use Rattle.area.specs.declared.PivotPos.TheVariants as PivotPos
use Rattle.layers.specs.declared.LayerId.{LayerId}

-- an area by its left top corner and its size
abbrev pub area_of : Float → Float → Float → Float → Bool → AreaState
area_of x y width height interactable = record { pivot_pos = PivotPos.At x y; pivot = record { x = 0; y = 0 }; size = Some (record { x = width; y = height }); interactable = interactable }

-- a layer, of id 0 where there is none
abbrev pub layer_of : Option LayerId → LayerId
layer_of layer = unwrap_or layer (record { order = 0; id = 0 })
