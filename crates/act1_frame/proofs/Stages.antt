-- The stages of a command follow one another: what was found after some reads is what was there before them.
use Rattle.std.proofs.Common.{ℕ, ◌≡◌, IsTrue, List, inl, inr, sym, subst, ◌∙◌, arith, Result, Ok, Err, IfOk, IfErr}
use Rattle.act1_outside.specs.Outside.{Shelf}
use Rattle.act1_outside.specs.Faults.{Rose}
use Rattle.act1_frame.specs.declared.ending.Ending.{Ending}
use Rattle.act1_frame.specs.declared.stop.Stop.{Stop}
use Rattle.act1_frame.specs.declared.stop.Stop.TheVariants.{Ends, Memory}
use Rattle.act1_frame.specs.Reading.{Wanted, WasRead, OnlyRead, Found}
use Rattle.act1_frame.specs.Stages.{ReadStops, FileStops, Reads, OnStop}

-- reads after reads
pub only_on : (a b c : Shelf) → OnlyRead a b → OnlyRead b c → OnlyRead a c
only_on a b c h k = record {
  tells = k.tells ∙ h.tells;
  held = λ told name. k.held (subst IsTrue (sym h.tells) told) name ∙ h.held told name;
  reads = λ name. let x = h.reads name in let y = k.reads name in omega arith;
  writes = λ name. k.writes name ∙ h.writes name;
  memory = k.memory ∙ h.memory;
}

module _ (before mid after : Shelf) (only : OnlyRead before mid) where
  was_read : (wanted : Wanted) (bytes : List ℕ) → WasRead mid wanted bytes → WasRead before wanted bytes
  was_read wanted bytes h = record {
    held = λ told. sym (only.held told wanted.name) ∙ h.held (subst IsTrue (sym only.tells) told);
    few = h.few;
  }

  read_stops : (wanted : Wanted) (e : Ending) → ReadStops mid after wanted e → ReadStops before after wanted e
  read_stops wanted e (inl h) = inl (let le = only.reads wanted.name in let rose = h.0 in omega arith, h.1)
  read_stops wanted e (inr h) = inr (λ told. let found = h.0 (subst IsTrue (sym only.tells) told) in (found.0, sym (only.held told wanted.name) ∙ found.1, found.2), h.1)

  module _ (wanted : Wanted) where
    -- what was found was there before
    pub found_before : {X : Type 0} (IsText : List ℕ → X → Type 0) (x : X) → Found IsText mid wanted x → Found IsText before wanted x
    found_before IsText x h = record { bytes = h.bytes; read = was_read wanted h.bytes h.read; text = h.text }

    -- what stopped the command was there before
    pub stops_before : (Refuses : List ℕ → Ending → Type 0) (e : Ending) → FileStops Refuses mid after wanted e → FileStops Refuses before after wanted e
    stops_before Refuses e (inl h) = inl (read_stops wanted e h)
    stops_before Refuses e (inr h) = inr (h.0, was_read wanted h.0 h.1, h.2)

module _ (P Q : Ending → Type 0) (on : (e : Ending) → P e → Q e) where
  -- a stage stops the command where it stops by itself
  pub on_stop : (s : Stop) → OnStop P s → OnStop Q s
  on_stop (Ends e) h = on e h
  on_stop Memory h = tt

  -- the last stage ends the command
  pub on_ok : (r : Result Ending Stop) → IfOk r P → IfOk r Q
  on_ok (Ok e) h = on e h
  on_ok (Err s) h = tt

  pub on_err : (r : Result Ending Stop) → IfErr r (OnStop P) → IfErr r (OnStop Q)
  on_err (Ok e) h = tt
  on_err (Err s) h = on_stop s h

-- from the counts after the reads to those after the write
module _ (before mid after : Shelf) (same : (n : List ℕ) → after.read_faults n ≡ mid.read_faults n) where
  read_stops_after : (wanted : Wanted) (e : Ending) → ReadStops before mid wanted e → ReadStops before after wanted e
  read_stops_after wanted e (inl h) = inl (subst (λ (n : ℕ). Rose (before.read_faults wanted.name) n) (sym (same wanted.name)) h.0, h.1)
  read_stops_after wanted e (inr h) = inr h

  pub reads_after : {X : Type 0} (IsText : List ℕ → X → Type 0) (Refuses : List ℕ → Ending → Type 0) (wanted : Wanted) (Rest Next : X → Ending → Type 0) → ((x : X) (e : Ending) → Rest x e → Next x e)
      → (e : Ending) → Reads IsText Refuses before mid wanted Rest e → Reads IsText Refuses before after wanted Next e
  reads_after IsText Refuses wanted Rest Next on e (inl (inl h)) = inl (inl (read_stops_after wanted e h))
  reads_after IsText Refuses wanted Rest Next on e (inl (inr h)) = inl (inr h)
  reads_after IsText Refuses wanted Rest Next on e (inr h) = inr (h.0, h.1, on h.0 e h.2)
