use Rattle.std.proofs.Common.{◌≡◌, ◌++◌, drop, option_map}
use Rattle.toml.specs.Data.{as_integer}
use Rattle.toml.specs.View.{view, items_view}
use Rattle.act1_devread.specs.Document.{each, list_of}
use Rattle.act1_devread.proofs.lists.integer_lists.Given as goal

abbrev pub invariant-loop-item : goal.invariant-loop-item
invariant-loop-item l = option_map (λ xs. l.found ++ xs) (each (list_of as_integer) (items_view (drop l.item-index l.item-items))) ≡ list_of (list_of as_integer) (view l.value)
