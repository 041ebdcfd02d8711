-- What a look-up in the table of kept nodes finds, and what the table has with one node more.
use Rattle.std.proofs.Common.{ℕ, ◌≡◌, ◌⊎◌, Bool, true, false, true≢false, List, [], ◌∷◌, ◌++◌, Option, Some, None, refl, sym, ap, ◌∙◌, inl, inr}
use Rattle.std.specs.Prelude.{MatchOption}
use Rattle.std.specs.Map.{lookup}
use Rattle.std.specs.Str.{bytes_eq}
use Rattle.std.proofs.lemmas.Slice.Eq.{bytes_eq-Decides}
use Rattle.indexmap.specs.IndexMap.{insert_entry}
use Rattle.act1_net.specs.TableSteps.{Has, HasNone}

two : (b : Bool) → (b ≡ true) ⊎ (b ≡ false)
two true = inl refl
two false = inr refl

more_none : (e : List ℕ × ℕ) (entries : List (List ℕ × ℕ)) (key : List ℕ) → (e.0 ≡ key → ⊥) → HasNone entries key → HasNone (e ∷ entries) key
more_none e entries key apart none s (inl h) = apart h.0
more_none e entries key apart none s (inr h) = none s h

pub looked_up : (key : List ℕ) (entries : List (List ℕ × ℕ)) → MatchOption (lookup (bytes_eq key) entries) (HasNone entries key) (Has entries key)
looked_up key [] = λ s h. h
looked_up key (e ∷ entries) = by (two (bytes_eq key e.0)) (lookup (bytes_eq key) entries) refl (looked_up key entries)
  where
    later : (o : Option ℕ) → MatchOption o (HasNone entries key) (Has entries key) → bytes_eq key e.0 ≡ false → MatchOption o (HasNone (e ∷ entries) key) (Has (e ∷ entries) key)
    later None h f = more_none e entries key (λ same. true≢false (sym ((bytes_eq-Decides key e.0).1 (sym same)) ∙ f)) h
    later (Some s) h f = inr h

    by : (bytes_eq key e.0 ≡ true) ⊎ (bytes_eq key e.0 ≡ false) → (o : Option ℕ) → lookup (bytes_eq key) entries ≡ o → MatchOption (lookup (bytes_eq key) entries) (HasNone entries key) (Has entries key)
        → MatchOption (lookup (bytes_eq key) (e ∷ entries)) (HasNone (e ∷ entries) key) (Has (e ∷ entries) key)
    by (inl same) o is h = rw same (inl (sym ((bytes_eq-Decides key e.0).0 same), refl))
    by (inr other) o is h = rw other (later (lookup (bytes_eq key) entries) h other)

pub entry_added : (key : List ℕ) (s : ℕ) (entries : List (List ℕ × ℕ)) → HasNone entries key → insert_entry bytes_eq entries key s ≡ entries ++ (key, s) ∷ []
entry_added key s [] none = refl
entry_added key s (e ∷ entries) none = by (two (bytes_eq key e.0)) (entry_added key s entries (λ u h. none u (inr h)))
  where
    by : (bytes_eq key e.0 ≡ true) ⊎ (bytes_eq key e.0 ≡ false) → insert_entry bytes_eq entries key s ≡ entries ++ (key, s) ∷ [] → insert_entry bytes_eq (e ∷ entries) key s ≡ e ∷ (entries ++ (key, s) ∷ [])
    by (inl same) rest = absurd (none e.1 (inl (sym ((bytes_eq-Decides key e.0).0 same), refl)))
    by (inr other) rest = rw other (ap (λ (es : List (List ℕ × ℕ)). e ∷ es) rest)

-- with one node more
pub has_more : (entries : List (List ℕ × ℕ)) (key other : List ℕ) (s u : ℕ) → Has entries key s → Has (entries ++ (other, u) ∷ []) key s
has_more [] key other s u h = absurd h
has_more (e ∷ entries) key other s u (inl h) = inl h
has_more (e ∷ entries) key other s u (inr h) = inr (has_more entries key other s u h)

pub has_last : (entries : List (List ℕ × ℕ)) (key : List ℕ) (s : ℕ) → Has (entries ++ (key, s) ∷ []) key s
has_last [] key s = inl (refl, refl)
has_last (e ∷ entries) key s = inr (has_last entries key s)

pub has_cases : (entries : List (List ℕ × ℕ)) (key other : List ℕ) (s u : ℕ) → Has (entries ++ (other, u) ∷ []) key s → Has entries key s ⊎ ((other ≡ key) × (u ≡ s))
has_cases [] key other s u (inl h) = inr h
has_cases [] key other s u (inr h) = absurd h
has_cases (e ∷ entries) key other s u (inl h) = inl (inl h)
has_cases (e ∷ entries) key other s u (inr h) = later (has_cases entries key other s u h)
  where
    later : Has entries key s ⊎ ((other ≡ key) × (u ≡ s)) → Has (e ∷ entries) key s ⊎ ((other ≡ key) × (u ≡ s))
    later (inl g) = inl (inr g)
    later (inr g) = inr g
