-- What the reader makes of the words of a latch.
use Rattle.std.specs.Prelude.{ℕ, ◌≡◌, List, [], ◌∷◌, length, Option, Some, None, Result, Ok, Err, if◌then◌else◌, nat_lt}
use Rattle.std.specs.Option.{option_map, is_none}
use Rattle.std.specs.Borrow.{Bor}
use Rattle.act1_bliftext.specs.Forms.{init_value, start_by, is_other_type, latch_control}
use Rattle.act1_bliftext.specs.Statements.{numbers_in}
use Rattle.act1_bliftext.specs.declared.fault.BlifKind.{BlifKind}
use Rattle.act1_bliftext.specs.declared.fault.BlifKind.TheVariants as kind
use Rattle.act1_bliftext.specs.declared.statement.Statement.{Statement}
use Rattle.act1_bliftext.specs.declared.statement.Statement.TheVariants as said

-- no word or one
abbrev pub control_word : Option (List ℕ) → List (List ℕ)
control_word None = []
control_word (Some control) = control ∷ []

-- the first fault that the words behind input and output have by themselves
abbrev pub latch_fault : List (List ℕ) → Option BlifKind
latch_fault words =
    if nat_lt 3 (length words) then Some kind.Shape else
    if is_other_type words then Some kind.LatchKind else
    if is_none (start_by words) then Some kind.Init else None

abbrev pub bytes_in : Option (Bor (List ℕ)) → Option (List ℕ)
bytes_in word = option_map (λ (w : Bor (List ℕ)). w.now) word

-- an init beside a control
abbrev pub StartGives : Option (Bor (List ℕ)) → List ℕ → Result (Option (Bor (List ℕ)) × ℕ) BlifKind → Type 0
StartGives control init (Ok r) = (r.0 ≡ control) × (init_value init ≡ Some r.1)
StartGives control init (Err k) = (k ≡ kind.Init) × (init_value init ≡ None)

-- the control and the init, or the fault
abbrev pub LatchGives : List (List ℕ) → Result (Option (Bor (List ℕ)) × ℕ) BlifKind → Type 0
LatchGives words (Ok r) = (latch_fault words ≡ None) × (control_word (bytes_in r.0) ≡ latch_control words) × (start_by words ≡ Some r.1)
LatchGives words (Err k) = latch_fault words ≡ Some k

-- a latch with these numbers and this init
abbrev pub IsLatch : List ℕ → ℕ → Statement → Type 0
IsLatch numbers init (said.Latch input output control start) = (numbers_in (said.Latch input output control start) ≡ numbers) × (start ≡ init)
IsLatch numbers init _ = ⊥
