-- What a line of a latch gives.
use Rattle.std.proofs.Common.{ℕ, ◌≡◌, List, ◌∷◌, Option, Some, None, Result, Ok, Err, refl, sym, ap, subst, ◌∙◌, Bor}
use Rattle.act1_base.specs.declared.texts.Stop.{Stop}
use Rattle.act1_base.specs.declared.texts.Stop.TheVariants.{Fault, Memory}
use Rattle.act1_bliftext.specs.Forms.{latch_control, start_by}
use Rattle.act1_bliftext.specs.LatchSteps.{LatchGives, bytes_in, control_word, latch_fault}
use Rattle.act1_bliftext.specs.ReadingSteps.{AddsLatch, AddsSaid, FormGives, HasStart, LatchFollows, StartIs, rest_fault}
use Rattle.act1_bliftext.specs.declared.fault.BlifKind.{BlifKind}
use Rattle.act1_bliftext.specs.declared.fault.BlifKind.TheVariants as kind
use Rattle.act1_bliftext.specs.declared.form.Form.TheVariants as form
use Rattle.act1_bliftext.specs.declared.reading.Reading.{Reading}
use Rattle.act1_bliftext.specs.declared.statement.NumberedStatement.{NumberedStatement}
use Rattle.act1_bliftext.specs.declared.statement.Statement.{Statement}
use Rattle.act1_bliftext.specs.declared.statement.Statement.TheVariants as said
use Rattle.act1_bliftext.proofs.LatchLemmas.{own_latch}

start_is : (input output : List ℕ) (more : List (List ℕ)) (init : ℕ) (statement : Statement) → start_by more ≡ Some init → HasStart init statement → StartIs (input ∷ output ∷ more) statement
start_is input output more init (said.Latch a b c start) e h = e ∙ ap (λ (n : ℕ). let o : Option ℕ = Some n in o) (sym h)
start_is input output more init s e h = elim h [ ]

module _ (number : ℕ) (input output : List ℕ) (more : List (List ℕ)) (old : Reading) where
  -- a fault of the words behind input and output
  pub latch_stops : (k : BlifKind) → latch_fault more ≡ Some k → rest_fault form.Latch old (input ∷ output ∷ more) ≡ Some k
  latch_stops k h = rw (own_latch input output more, h) refl

  latch_added : (names : List (List ℕ)) (init : ℕ) (before after : List NumberedStatement) → start_by more ≡ Some init → AddsLatch names number (input ∷ output ∷ latch_control more) init before after
      → AddsSaid names form.Latch number (input ∷ output ∷ more) before after
  latch_added names init before after start h =
      record {
        numbered = h.numbered;
        says = record { line = h.line; form_is = sym h.form_is; numbers = h.numbers; start = start_is input output more init h.numbered.statement start h.start };
        pushed = h.pushed;
      }

  latch_follows : (init : ℕ) (result : Result Reading (Stop BlifKind)) → latch_fault more ≡ None → start_by more ≡ Some init → LatchFollows number (input ∷ output ∷ latch_control more) init old result
      → FormGives form.Latch number (input ∷ output ∷ more) old result
  latch_follows init (Ok new) well start (running, few, has) = (
    rw (own_latch input output more, well, running, few) refl,
    record {
      model = has.model;
      names = has.names;
      later = has.later;
      ended = has.ended ∙ sym running;
      said = (latch_added new.names init old.statements new.statements start has.said, has.closed);
    },
  )
  latch_follows init (Err (Fault kind.After)) well start ended = rw (own_latch input output more, well, ended) refl
  latch_follows init (Err (Fault kind.Limit)) well start (running, past) = rw (own_latch input output more, well, running, past) refl
  latch_follows init (Err (Fault k)) well start h = elim h [ ]
  latch_follows init (Err Memory) well start h = tt

  -- the words behind input and output have no fault
  pub latch_gives : (control : Option (Bor (List ℕ))) (init : ℕ) (result : Result Reading (Stop BlifKind)) → LatchGives more (Ok (control, init))
      → LatchFollows number (input ∷ output ∷ control_word (bytes_in control)) init old result → FormGives form.Latch number (input ∷ output ∷ more) old result
  latch_gives control init result (well, names, start) h =
      latch_follows init result well start (subst (λ (words : List (List ℕ)). LatchFollows number (input ∷ output ∷ words) init old result) names h)
