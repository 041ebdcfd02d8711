-- What is found, when an entry is added.
use Rattle.std.proofs.Common.{ℕ, ◌≡◌, ◌≢◌, ◌<◌, ◌⊎◌, inl, inr, List, [], ◌∷◌, ◌++◌, length, Option, Some, None, refl, sym, ap, subst, ◌∙◌, arith}
use Rattle.std.specs.Prelude.{Contains, slice_get, slice_set}
use Rattle.std.proofs.lemmas.List.Elements.{Contains-append_left, Contains-append_right}
use Rattle.std.proofs.lemmas.List.{append-nil}
use Rattle.std.proofs.lemmas.Bool.{cases_eq}
use Rattle.act1_base.proofs.ListGets.{get_more, get_written, get_unwritten, get_within, some_is}
use Rattle.act1_outside.specs.declared.helpers.Entry.{Entry}
use Rattle.act1_outside.specs.declared.helpers.Entry.TheVariants as entry
use Rattle.act1_channel.specs.declared.problem.Problem.{Problem}
use Rattle.act1_search.specs.declared.verdict.Verdict.{Verdict}
use Rattle.act1_farm.specs.Usable.{Brings, IsUsable}
use Rattle.act1_farm.specs.Story.{asks, IsAnswered, HasUsable}
use Rattle.act1_farm.specs.Course.{IsFound, AreFound}
use Rattle.act1_farm.proofs.Entries.{asks_more, asks_cases, contains_cases}
use Rattle.act1_farm.proofs.Farms.{length_written}

-- what was asked for stays
pub asks_kept : (s : List Entry) (e : Entry) (i : ℕ) (x : Option ℕ) → slice_get (asks s) i ≡ Some x → slice_get (asks (s ++ e ∷ [])) i ≡ Some x
asks_kept s e i x h = ap (λ (l : List (Option ℕ)). slice_get l i) (asks_more s e) ∙ by e
  where
    by : (e : Entry) → slice_get (asks s ++ asks (e ∷ [])) i ≡ Some x
    by (entry.Started p j t) = get_more (asks s) (Some t) x i h
    by (entry.Refused p j) = get_more (asks s) None x i h
    by (entry.Answered t bytes) = ap (λ (l : List (Option ℕ)). slice_get l i) (append-nil (asks s)) ∙ h
    by (entry.Lost t) = ap (λ (l : List (Option ℕ)). slice_get l i) (append-nil (asks s)) ∙ h

pub answer_kept : (s : List Entry) (e : Entry) (i : ℕ) (bytes : List ℕ) → IsAnswered s i bytes → IsAnswered (s ++ e ∷ []) i bytes
answer_kept s e i bytes (t, asked, there) = (t, asks_kept s e i (Some t) asked, Contains-append_left s (e ∷ []) (entry.Answered t bytes) there)

found_kept : (wanted : List Problem) (s : List Entry) (e : Entry) (i : ℕ) (v : Verdict) → IsFound wanted s i (Some v) → IsFound wanted (s ++ e ∷ []) i (Some v)
found_kept wanted s e i v (p, bytes, there, answer, brings) = (p, bytes, there, answer_kept s e i bytes answer, brings)

-- an entry that is no answer, and whose ticket, if it has one, was answered by none
module _ (wanted : List Problem) (s : List Entry) (e : Entry) (silent : (t : ℕ) (bytes : List ℕ) → e ≡ entry.Answered t bytes → ⊥)
    (fresh : (t : ℕ) (bytes : List ℕ) → slice_get (asks (e ∷ [])) 0 ≡ Some (Some t) → Contains s (entry.Answered t bytes) → ⊥) where
  answer_was : (i : ℕ) (bytes : List ℕ) → IsAnswered (s ++ e ∷ []) i bytes → IsAnswered s i bytes
  answer_was i bytes (t, asked, there) = by (contains_cases s e (entry.Answered t bytes) there) (asks_cases s e i (Some t) asked)
    where
      by : Contains s (entry.Answered t bytes) ⊎ (e ≡ entry.Answered t bytes) → (slice_get (asks s) i ≡ Some (Some t)) ⊎ ((i ≡ length (asks s)) × (slice_get (asks (e ∷ [])) 0 ≡ Some (Some t))) → IsAnswered s i bytes
      by (inr h) k = absurd (silent t bytes h)
      by (inl h) (inl k) = (t, k, h)
      by (inl h) (inr k) = absurd (fresh t bytes k.1 h)

  found_still : (i : ℕ) (v : Option Verdict) → IsFound wanted s i v → IsFound wanted (s ++ e ∷ []) i v
  found_still i (Some v) f = found_kept wanted s e i v f
  found_still i None f = λ u. f (u.0, u.1, u.2, answer_was i u.1 u.3, u.4)

  pub found_silent : (found : List (Option Verdict)) → AreFound wanted s found → AreFound wanted (s ++ e ∷ []) found
  found_silent found a = record { each = a.each; kept = λ i v h. found_still i v (a.kept i v h) }

-- an answer to what was asked for as this one
module _ (wanted : List Problem) (s : List Entry) (t n : ℕ) (bytes : List ℕ) (p : Problem)
    (once : (i j u : ℕ) → slice_get (asks s) i ≡ Some (Some u) → slice_get (asks s) j ≡ Some (Some u) → i ≡ j)
    (asked : slice_get (asks s) n ≡ Some (Some t)) (there : slice_get wanted n ≡ Some p) where
  abbrev pub e : Entry
  e = entry.Answered t bytes

  -- a usable answer came before, or it is this one
  usable_cases : (i : ℕ) → HasUsable wanted (s ++ e ∷ []) i → HasUsable wanted s i ⊎ ((i ≡ n) × IsUsable p bytes)
  usable_cases i (q, other, at, (u, asks_u, has), usable) = by (contains_cases s e (entry.Answered u other) has)
    where
      was : slice_get (asks s) i ≡ Some (Some u)
      was = ap (λ (l : List (Option ℕ)). slice_get l i) (sym (asks_more s e ∙ append-nil (asks s))) ∙ asks_u

      same : entry.Answered t bytes ≡ entry.Answered u other → t ≡ u
      same h = cc

      same_bytes : entry.Answered t bytes ≡ entry.Answered u other → other ≡ bytes
      same_bytes h = cc

      by : Contains s (entry.Answered u other) ⊎ (e ≡ entry.Answered u other) → HasUsable wanted s i ⊎ ((i ≡ n) × IsUsable p bytes)
      by (inl h) = inl (q, other, at, (u, was, h), usable)
      by (inr h) =
          let i_is : i ≡ n = once i n u was (subst (λ (w : ℕ). slice_get (asks s) n ≡ Some (Some w)) (same h) asked) in
          let q_is : q ≡ p = some_is q p (sym at ∙ ap (λ (k : ℕ). slice_get wanted k) i_is ∙ there) in
          inr (i_is, subst (λ (z : Problem). IsUsable z bytes) q_is (subst (λ (b : List ℕ). IsUsable q b) (same_bytes h) usable))

  -- an answer that isn't usable
  pub found_useless : (found : List (Option Verdict)) → (IsUsable p bytes → ⊥) → AreFound wanted s found → AreFound wanted (s ++ e ∷ []) found
  found_useless found useless a = record { each = a.each; kept = λ i v h. still i v (a.kept i v h) }
    where
      still : (i : ℕ) (v : Option Verdict) → IsFound wanted s i v → IsFound wanted (s ++ e ∷ []) i v
      still i (Some v) f = found_kept wanted s e i v f
      still i None f = λ u. by (usable_cases i u)
        where
          by : HasUsable wanted s i ⊎ ((i ≡ n) × IsUsable p bytes) → ⊥
          by (inl h) = f h
          by (inr h) = useless h.1

  -- a usable answer
  pub found_usable : (found : List (Option Verdict)) (v : Verdict) → Brings p bytes v → AreFound wanted s found → AreFound wanted (s ++ e ∷ []) (slice_set found n (Some v))
  found_usable found v brings a = record { each = length_written found n (Some v) ∙ a.each; kept = λ i w h. still i w h (cases_eq i n) }
    where
      new : IsFound wanted (s ++ e ∷ []) n (Some v)
      new = (p, bytes, there, (t, asks_kept s e n (Some t) asked, Contains-append_right s (e ∷ []) e (0, omega arith, refl)), brings)

      other : (i : ℕ) (w : Option Verdict) → i ≢ n → IsFound wanted s i w → IsFound wanted (s ++ e ∷ []) i w
      other i (Some w) apart f = found_kept wanted s e i w f
      other i None apart f = λ u. by (usable_cases i u)
        where
          by : HasUsable wanted s i ⊎ ((i ≡ n) × IsUsable p bytes) → ⊥
          by (inl h) = f h
          by (inr h) = apart h.0

      within : n < length found
      within = let l = get_within wanted n p there in let m = a.each in omega arith

      still : (i : ℕ) (w : Option Verdict) → slice_get (slice_set found n (Some v)) i ≡ Some w → (i ≡ n) ⊎ (i ≢ n) → IsFound wanted (s ++ e ∷ []) i w
      still i w h (inr apart) = other i w apart (a.kept i w (sym (get_unwritten found n i (Some v) apart) ∙ h))
      still i w h (inl same) =
          let w_is : Some v ≡ w = some_is (Some v) w (sym (get_written found n (Some v) within) ∙ ap (λ (k : ℕ). slice_get (slice_set found n (Some v)) k) (sym same) ∙ h) in
          subst (λ (k : ℕ). IsFound wanted (s ++ e ∷ []) k w) (sym same) (subst (λ (z : Option Verdict). IsFound wanted (s ++ e ∷ []) n z) w_is new)
