-- What a cover gives. The source is Berkeley's BLIF.
use Rattle.std.specs.Prelude.{Bool, not, if◌then◌else◌, List}
use Rattle.std.specs.List.{list_any}
use Rattle.act1_logic.specs.declared.cover.Cover.{Cover}
use Rattle.act1_logic.specs.Rows.{agrees}

-- the output character where some row agrees with the inputs, and the other one where none does; so no rows give 0
abbrev pub value_of : Cover → List Bool → Bool
value_of cover xs = if list_any (λ row. agrees row.marks xs) cover.rows then cover.output else not cover.output
