-- Which statuses and files the endings of a command have, stage by stage.
use Rattle.std.proofs.Common.{ℕ, ◌≡◌, ◌≢◌, ◌≤◌, List, Some, Contains, inl, inr, sym, ap, subst, ◌∙◌, arith}
use Rattle.act1_outside.specs.Outside.{Shelf}
use Rattle.act1_frame.specs.declared.ending.Ending.{Ending}
use Rattle.act1_frame.specs.declared.ending.FileText.{FileText}
use Rattle.act1_frame.specs.Clauses.{HasReadFault, HasLongFile}
use Rattle.act1_frame.specs.Endings.{with_text, refusal}
use Rattle.act1_frame.specs.Reading.{Wanted, Found}
use Rattle.act1_frame.specs.Stages.{ReadStops, RefusedFor, FileStops, Then, Reads}

-- what holds of each way to stop and of each way to go on holds of the stage
pub along : {X : Type 0} (Has : X → Type 0) (Stops : Ending → Type 0) (Rest : X → Ending → Type 0) (P : Ending → Type 0) → ((e : Ending) → Stops e → P e) → ((x : X) (e : Ending) → Has x → Rest x e → P e)
    → (e : Ending) → Then Has Stops Rest e → P e
along Has Stops Rest P stops rest e (inl h) = stops e h
along Has Stops Rest P stops rest e (inr h) = rest h.0 e h.1 h.2

-- a status that is about the content of files or what follows it
pub record IsOfContent (status : ℕ) : Type 0 where
  pub one : status ≢ 1
  pub two : status ≢ 2
  pub three : status ≢ 3
  pub sixteen : status ≢ 16

pub content : (status : ℕ) → 4 ≤ status → status ≢ 16 → IsOfContent status
content status low other = record { one = λ e. absurd (omega (arith, low, e)); two = λ e. absurd (omega (arith, low, e)); three = λ e. absurd (omega (arith, low, e)); sixteen = other }

-- the status of a command that is done
pub done_content : IsOfContent 0
done_content = record { one = λ e. absurd (omega (arith, e)); two = λ e. absurd (omega (arith, e)); three = λ e. absurd (omega (arith, e)); sixteen = λ e. absurd (omega (arith, e)) }

module _ (Usage : Type 0) (reads : List Wanted) (writes_at : ℕ → List (List ℕ)) (before after : Shelf) where
  -- statuses 1, 2 and 16 come with their causes, 3 never, and a file is one that is written at the status
  pub record IsFine (e : Ending) : Type 0 where
    pub words : e.status ≡ 1 → Usage
    pub three : e.status ≢ 3
    pub read : e.status ≡ 2 → HasReadFault reads before after
    pub long : e.status ≡ 16 → HasLongFile reads before
    pub file : (f : FileText) → e.file ≡ Some f → Contains (writes_at e.status) f.name

  plain : (status : ℕ) (text : List ℕ) → IsOfContent status → IsFine (with_text status text)
  plain status text h = record { words = λ e. absurd (h.one e); three = h.three; read = λ e. absurd (h.two e); long = λ e. absurd (h.sixteen e); file = λ f e. cc }

  -- an ending that prints a text and is of the content
  pub text_fine : (status : ℕ) (text : List ℕ) (e : Ending) → IsOfContent status → e ≡ with_text status text → IsFine e
  text_fine status text e h is = subst IsFine (sym is) (plain status text h)

  pub refused_fine : {F : Type 0} (status : ℕ) (words : F → List (List ℕ)) (Holds : F → Type 0) (e : Ending) → IsOfContent status → RefusedFor status words Holds e → IsFine e
  refused_fine status words Holds e h r = text_fine status (refusal status (words r.0)).text e h r.2

  read_fine : (wanted : Wanted) (e : Ending) → Contains reads wanted → ReadStops before after wanted e → IsFine e
  read_fine wanted e has (inl h) =
      subst IsFine (sym h.1)
      (record { words = λ n. absurd (omega (arith, n)); three = λ n. absurd (omega (arith, n)); read = λ n. (wanted, has, h.0); long = λ n. absurd (omega (arith, n)); file = λ f n. cc })
  read_fine wanted e has (inr h) =
      subst IsFine (sym h.1)
      (record { words = λ n. absurd (omega (arith, n)); three = λ n. absurd (omega (arith, n)); read = λ n. absurd (omega (arith, n)); long = λ n. (wanted, has, h.0); file = λ f n. cc })

  file_fine : (Refuses : List ℕ → Ending → Type 0) (wanted : Wanted) (e : Ending) → Contains reads wanted → ((bytes : List ℕ) (p : Ending) → Refuses bytes p → IsFine p)
      → FileStops Refuses before after wanted e → IsFine e
  file_fine Refuses wanted e has refused (inl h) = read_fine wanted e has h
  file_fine Refuses wanted e has refused (inr h) = refused h.0 e h.2

  -- a stage that reads a file
  pub reads_fine : {X : Type 0} (IsText : List ℕ → X → Type 0) (Refuses : List ℕ → Ending → Type 0) (wanted : Wanted) (Rest : X → Ending → Type 0) → Contains reads wanted
      → ((bytes : List ℕ) (p : Ending) → Refuses bytes p → IsFine p) → ((x : X) (p : Ending) → Rest x p → IsFine p) → (e : Ending) → Reads IsText Refuses before after wanted Rest e → IsFine e
  reads_fine IsText Refuses wanted Rest has refused rest =
      along (Found IsText before wanted) (FileStops Refuses before after wanted) Rest IsFine (λ e h. file_fine Refuses wanted e has refused h) (λ x e f h. rest x e h)

-- the status of an ending that prints a text
pub status_of_text : (status : ℕ) (text : List ℕ) (e : Ending) → e ≡ with_text status text → e.status ≡ status
status_of_text status text e h = ap (λ (p : Ending). p.status) h

-- at a status that no stop at the file has a command didn't stop there
pub went_on : {X : Type 0} (IsText : List ℕ → X → Type 0) (Refuses : List ℕ → Ending → Type 0) (before after : Shelf) (wanted : Wanted) (Rest : X → Ending → Type 0) (status : ℕ) → status ≢ 2 → status ≢ 16
    → ((bytes : List ℕ) (p : Ending) → Refuses bytes p → p.status ≢ status) → (e : Ending) → Reads IsText Refuses before after wanted Rest e → e.status ≡ status → (x : X) × Found IsText before wanted x × Rest x e
went_on IsText Refuses before after wanted Rest status two sixteen refused e (inl (inl (inl h))) is = elim (two (sym is ∙ status_of_text 2 _ e h.1)) [ ]
went_on IsText Refuses before after wanted Rest status two sixteen refused e (inl (inl (inr h))) is = elim (sixteen (sym is ∙ status_of_text 16 _ e h.1)) [ ]
went_on IsText Refuses before after wanted Rest status two sixteen refused e (inl (inr h)) is = elim (refused h.0 e h.2 is) [ ]
went_on IsText Refuses before after wanted Rest status two sixteen refused e (inr h) is = h

-- a refusal has no other status
pub refused_apart : {F : Type 0} (status other : ℕ) (words : F → List (List ℕ)) (Holds : F → Type 0) (e : Ending) → status ≢ other → RefusedFor status words Holds e → e.status ≢ other
refused_apart status other words Holds e apart r is = apart (sym (status_of_text status (refusal status (words r.0)).text e r.2) ∙ is)
