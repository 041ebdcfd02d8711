-- What a call of the reader does to the state of the lines so far.
use Rattle.std.specs.Prelude.{◌≡◌, ⊤, Result, Ok, Err}
use Rattle.act1_base.specs.declared.texts.Stop.{Stop}
use Rattle.act1_base.specs.declared.texts.Stop.TheVariants.{Fault, Memory}
use Rattle.act1_fuses.specs.declared.fault.FuseKind.{FuseKind}
use Rattle.act1_fuses.specs.declared.form.FuseState.{FuseState}

-- the state is the wanted one, or the fault is; where want of memory alone is free
abbrev pub Takes : Result FuseState FuseKind → FuseState → Result ⊤ (Stop FuseKind) → Type 0
Takes wanted new (Ok done) = wanted ≡ Ok new
Takes wanted new (Err (Fault k)) = wanted ≡ Err k
Takes wanted new (Err Memory) = Unit {0}
