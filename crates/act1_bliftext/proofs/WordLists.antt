-- Words behind references, one after the other.
use Rattle.std.proofs.Common.{ℕ, ◌≡◌, ◌+◌, ◌<◌, ◌≤◌, ◌||◌, Bool, true, false, not, List, [], ◌∷◌, ◌++◌, length, get_or, take, drop, map, refl, sym, ap, subst, ◌∙◌}
use Rattle.std.specs.Borrow.{Bor}
use Rattle.std.specs.List.{list_any}
use Rattle.std.proofs.lemmas.List.{drop_more, drop_all, take_more, take_all, get_or-map, length-map}

-- the bytes of the words
abbrev pub texts : List (Bor (List ℕ)) → List (List ℕ)
texts words = map (λ (word : Bor (List ℕ)). word.now) words

inside : (words : List (Bor (List ℕ))) (i : ℕ) → i < length words → i < length (texts words)
inside words i within = subst (λ (n : ℕ). i < n) (sym (length-map words (λ (word : Bor (List ℕ)). word.now))) within

read_text : (words : List (Bor (List ℕ))) (i : ℕ) (d : Bor (List ℕ)) → i < length words → get_or (texts words) i [] ≡ (get_or words i d).now
read_text words i d within = get_or-map (λ (word : Bor (List ℕ)). word.now) words i d [] within

-- the word at i is the first of those to come
pub next_text : (words : List (Bor (List ℕ))) (i : ℕ) (d : Bor (List ℕ)) → i < length words → drop i (texts words) ≡ (get_or words i d).now ∷ drop (i + 1) (texts words)
next_text words i d within =
    drop_more (texts words) i [] (inside words i within) ∙ ap (λ (t : List ℕ). t ∷ drop (i + 1) (texts words)) (read_text words i d within)

-- and comes behind those so far
pub more_texts : (words : List (Bor (List ℕ))) (i : ℕ) (d : Bor (List ℕ)) → i < length words → take (i + 1) (texts words) ≡ take i (texts words) ++ (get_or words i d).now ∷ []
more_texts words i d within =
    take_more (texts words) i [] (inside words i within) ∙ ap (λ (t : List ℕ). take i (texts words) ++ t ∷ []) (read_text words i d within)

-- none are to come
pub no_text : (words : List (Bor (List ℕ))) (i : ℕ) → length words ≤ i → drop i (texts words) ≡ []
no_text words i past = drop_all i (texts words) (subst (λ (n : ℕ). n ≤ i) (sym (length-map words (λ (word : Bor (List ℕ)). word.now))) past)

-- and all are those so far
pub all_texts : (words : List (Bor (List ℕ))) (i : ℕ) → length words ≤ i → take i (texts words) ≡ texts words
all_texts words i past = take_all i (texts words) (subst (λ (n : ℕ). n ≤ i) (sym (length-map words (λ (word : Bor (List ℕ)). word.now))) past)

module _ (p : List ℕ → Bool) where
  -- a word that passes
  pub any_found : (words : List (Bor (List ℕ))) (i : ℕ) (d : Bor (List ℕ)) (whole : Bool) → i < length words → p (get_or words i d).now ≡ true
      → list_any p (drop i (texts words)) ≡ whole → true ≡ whole
  any_found words i d whole within passes is = sym (ap (λ (b : Bool). b || list_any p (drop (i + 1) (texts words))) passes) ∙ sym (ap (list_any p) (next_text words i d within)) ∙ is

  -- a word that doesn't
  pub any_next : (words : List (Bor (List ℕ))) (i : ℕ) (d : Bor (List ℕ)) (whole : Bool) → i < length words → p (get_or words i d).now ≡ false
      → list_any p (drop i (texts words)) ≡ whole → list_any p (drop (i + 1) (texts words)) ≡ whole
  any_next words i d whole within fails is = sym (ap (λ (b : Bool). b || list_any p (drop (i + 1) (texts words))) fails) ∙ sym (ap (list_any p) (next_text words i d within)) ∙ is

  -- no word is left
  pub any_none : (words : List (Bor (List ℕ))) (i : ℕ) (whole : Bool) → length words ≤ i → list_any p (drop i (texts words)) ≡ whole → false ≡ whole
  any_none words i whole past is = sym (ap (list_any p) (no_text words i past)) ∙ is

pub not_not : (b c : Bool) → c ≡ b → c ≡ false → not b ≡ true
not_not true c e h = cc
not_not false c e h = refl

pub not_so : (b c : Bool) → c ≡ b → c ≡ true → not b ≡ false
not_so true c e h = refl
not_so false c e h = cc
