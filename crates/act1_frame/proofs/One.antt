-- The words and files allow one status, where no read failed.
use Rattle.std.proofs.Common.{ℕ, ◌≡◌, IsTrue, List, length, Option, Some, inl, inr, sym, ap, subst, ◌∙◌, arith}
use Rattle.act1_outside.specs.Outside.{Shelf}
use Rattle.act1_frame.specs.declared.ending.Ending.{Ending}
use Rattle.act1_frame.specs.Reading.{Wanted, ReadFailed, WasRead, Found, AreBytes}
use Rattle.act1_frame.specs.Stages.{ReadStops, RefusedFor, NeverRefused, FileStops, Reads}
use Rattle.act1_frame.proofs.Fine.{status_of_text}

same_bytes : (o : Option (List ℕ)) (a b : List ℕ) → o ≡ Some a → o ≡ Some b → a ≡ b
same_bytes o a b h k = let e : Some a ≡ Some b = sym h ∙ k in cc

-- a way to refuse a text is exclusive with that it is one, and its endings have one status
pub record IsExact {X : Type 0} (IsText : List ℕ → X → Type 0) (Refuses : List ℕ → Ending → Type 0) : Type 0 where
  pub never_both : (bytes : List ℕ) (x : X) (e : Ending) → IsText bytes x → Refuses bytes e → ⊥
  pub one : (bytes : List ℕ) (x y : X) → IsText bytes x → IsText bytes y → x ≡ y
  pub status : (a b : List ℕ) (e p : Ending) → Refuses a e → Refuses b p → e.status ≡ p.status

pub refused_exact : {X F : Type 0} (IsText : List ℕ → X → Type 0) (status : ℕ) (words : F → List (List ℕ)) (Holds : List ℕ → F → Type 0) → ((bytes : List ℕ) (x : X) (fault : F) → IsText bytes x → Holds bytes fault → ⊥)
    → ((bytes : List ℕ) (x y : X) → IsText bytes x → IsText bytes y → x ≡ y) → IsExact IsText (λ bytes. RefusedFor status words (Holds bytes))
refused_exact IsText status words Holds never one = record {
  never_both = λ bytes x e h r. never bytes x r.0 h r.1;
  one = one;
  status = λ a b e p r s. status_of_text status _ e r.2 ∙ sym (status_of_text status _ p s.2);
}

pub bytes_exact : IsExact AreBytes NeverRefused
bytes_exact = record { never_both = λ bytes x e h k. k; one = λ bytes x y h k. h ∙ sym k; status = λ a b e p h k. absurd h }

module _ (before after : Shelf) (told : IsTrue before.tells) (wanted : Wanted) (no_fault : ReadFailed before after wanted.name → ⊥) where
  one_read : (a b : List ℕ) → WasRead before wanted a → WasRead before wanted b → a ≡ b
  one_read a b h k = same_bytes (before.held wanted.name) a b (h.held told) (k.held told)

  -- what stops a read wasn't read
  unread : (bytes : List ℕ) (e : Ending) → ReadStops before after wanted e → WasRead before wanted bytes → ⊥
  unread bytes e (inl h) read = no_fault h.0
  unread bytes e (inr h) read =
      let found = h.0 told in
      let same = ap length (same_bytes (before.held wanted.name) found.0 bytes found.1 (read.held told)) in
      let few = read.few in
      let many = found.2 in
      absurd (omega arith)

  read_status : (e : Ending) → ReadStops before after wanted e → e.status ≡ 16
  read_status e (inl h) = elim (no_fault h.0) [ ]
  read_status e (inr h) = status_of_text 16 _ e h.1

  module _ {X : Type 0} (IsText : List ℕ → X → Type 0) (Refuses : List ℕ → Ending → Type 0) (exact : IsExact IsText Refuses) where
    -- what stops a command at a file leaves nothing to be found there
    apart : (e : Ending) (x : X) → FileStops Refuses before after wanted e → Found IsText before wanted x → ⊥
    apart e x (inl h) f = unread f.bytes e h f.read
    apart e x (inr h) f = exact.never_both h.0 x e (subst (λ (b : List ℕ). IsText b x) (one_read f.bytes h.0 f.read h.1) f.text) h.2

    same_stop : (e p : Ending) → FileStops Refuses before after wanted e → FileStops Refuses before after wanted p → e.status ≡ p.status
    same_stop e p (inl h) (inl k) = read_status e h ∙ sym (read_status p k)
    same_stop e p (inl h) (inr k) = elim (unread k.0 e h k.1) [ ]
    same_stop e p (inr h) (inl k) = elim (unread h.0 p k h.1) [ ]
    same_stop e p (inr h) (inr k) = exact.status h.0 k.0 e p h.2 k.2

    same_found : (x y : X) → Found IsText before wanted x → Found IsText before wanted y → x ≡ y
    same_found x y f g = exact.one g.bytes x y (subst (λ (b : List ℕ). IsText b x) (one_read f.bytes g.bytes f.read g.read) f.text) g.text

    -- a stage that reads a file allows the same endings where what follows it does, if endings of one status are the same
    pub one_by : (Same : Ending → Ending → Type 0) → ((e p : Ending) → e.status ≡ p.status → Same e p) → (Rest : X → Ending → Type 0)
        → ((x : X) → Found IsText before wanted x → (e p : Ending) → Rest x e → Rest x p → Same e p) → (e p : Ending) → Reads IsText Refuses before after wanted Rest e → Reads IsText Refuses before after wanted Rest p → Same e p
    one_by Same same Rest rest e p (inl h) (inl k) = same e p (same_stop e p h k)
    one_by Same same Rest rest e p (inl h) (inr k) = elim (apart e k.0 h k.1) [ ]
    one_by Same same Rest rest e p (inr h) (inl k) = elim (apart p h.0 k h.1) [ ]
    one_by Same same Rest rest e p (inr h) (inr k) = rest h.0 h.1 e p h.2 (subst (λ (x : X). Rest x p) (same_found k.0 h.0 k.1 h.1) k.2)

    -- so it allows one status
    pub one_of : (Rest : X → Ending → Type 0) → ((x : X) → Found IsText before wanted x → (e p : Ending) → Rest x e → Rest x p → e.status ≡ p.status)
        → (e p : Ending) → Reads IsText Refuses before after wanted Rest e → Reads IsText Refuses before after wanted Rest p → e.status ≡ p.status
    one_of = one_by (λ e p. e.status ≡ p.status) (λ e p h. h)

    -- where the file was found the command went on with it
    pub went_on_with : (Rest : X → Ending → Type 0) (x : X) → Found IsText before wanted x → (e : Ending) → Reads IsText Refuses before after wanted Rest e → Rest x e
    went_on_with Rest x f e (inl h) = elim (apart e x h f) [ ]
    went_on_with Rest x f e (inr h) = subst (λ (y : X). Rest y e) (same_found h.0 x h.1 f) h.2
