-- No two latches of a netlist have one name.
use Rattle.std.proofs.Common.{ℕ, zero, suc, ◌≡◌, ◌+◌, ◌&&◌, ◌||◌, Bool, true, false, not, List, [], ◌∷◌, ◌++◌, length, Option, Some, None, map, sym, ap, ◌∙◌, refl, arith}
use Rattle.std.specs.Prelude.{slice_get, nat_le}
use Rattle.std.specs.List.{list_all, list_any}
use Rattle.std.specs.Str.{bytes_eq}
use Rattle.std.proofs.lemmas.Bool.{and_parts, false≢true}
use Rattle.std.proofs.lemmas.Slice.Eq.{bytes_eq-Decides}
use Rattle.act1_base.specs.Names.{is_name, are_different}
use Rattle.act1_base.proofs.ListGets.{get_map, some_is}
use Rattle.act1_blif.specs.declared.blif.Blif.{Blif}
use Rattle.act1_blif.specs.declared.blif.Latch.{Latch}
use Rattle.act1_blif.specs.declared.blif.Node.{Node}
use Rattle.act1_blif.specs.Laws.{LatchNamesDiffer}
use Rattle.act1_blif.specs.Rules.{are_names, names_of, with_clock}
use Rattle.act1_blif.proofs.NetFacts.{names_are}

same_name : (a b : List ℕ) → a ≡ b → bytes_eq a b ≡ true
same_name a b e = grind (arith, bytes_eq-Decides a b)

any_name : (a : List ℕ) (names : List (List ℕ)) (k : ℕ) → slice_get names k ≡ Some a → list_any (bytes_eq a) names ≡ true
any_name a [] k e = cc
any_name a (b ∷ names) zero e = left (bytes_eq a b) (list_any (bytes_eq a) names) (same_name a b (sym (some_is b a e)))
  where
    left : (s t : Bool) → s ≡ true → (s || t) ≡ true
    left true t e = refl
    left false t e = absurd (false≢true e)
any_name a (b ∷ names) (suc k) e = right (bytes_eq a b) (list_any (bytes_eq a) names) (any_name a names k e)
  where
    right : (s t : Bool) → t ≡ true → (s || t) ≡ true
    right true t e = refl
    right false t e = e

-- the first of different names is none of the others
not_again : (a b : List ℕ) (names : List (List ℕ)) (k : ℕ) → not (list_any (bytes_eq b) names) ≡ true → b ≡ a → slice_get names k ≡ Some a → ⊥
not_again a b names k none same e = both (list_any (bytes_eq b) names) none (any_name b names k (e ∙ ap Some (sym same)))
  where
    both : (t : Bool) → not t ≡ true → t ≡ true → ⊥
    both true n e = false≢true n
    both false n e = false≢true e

one_place : (names : List (List ℕ)) (a : List ℕ) (j k : ℕ) → are_different names ≡ true → slice_get names j ≡ Some a → slice_get names k ≡ Some a → j ≡ k
one_place [] a j k h e f = cc
one_place (b ∷ names) a zero zero h e f = refl
one_place (b ∷ names) a zero (suc k) h e f = absurd (not_again a b names k (and_parts (not (list_any (bytes_eq b) names)) (are_different names) h).0 (some_is b a e) f)
one_place (b ∷ names) a (suc j) zero h e f = absurd (not_again a b names j (and_parts (not (list_any (bytes_eq b) names)) (are_different names) h).0 (some_is b a f) e)
one_place (b ∷ names) a (suc j) (suc k) h e f = ap suc (one_place names a j k (and_parts (not (list_any (bytes_eq b) names)) (are_different names) h).1 e f)

in_front : {X : Type 0} (xs ys : List X) (k : ℕ) (x : X) → slice_get xs k ≡ Some x → slice_get (xs ++ ys) k ≡ Some x
in_front [] ys k x e = cc
in_front (z ∷ xs) ys zero x e = e
in_front (z ∷ xs) ys (suc k) x e = in_front xs ys k x e

behind : {X : Type 0} (xs ys : List X) (k : ℕ) → slice_get (xs ++ ys) (length xs + k) ≡ slice_get ys k
behind [] ys k = let z : 0 + k ≡ k = omega arith in ap (slice_get ys) z
behind (x ∷ xs) ys k = let z : suc (length xs) + k ≡ suc (length xs + k) = omega arith in ap (slice_get (x ∷ xs ++ ys)) z ∙ behind xs ys k

-- the names of signals differ, with the clock's or without it
apart : (clock : Option (List ℕ)) (names : List (List ℕ)) → are_names (with_clock clock names) ≡ true → are_different names ≡ true
apart None names h = (and_parts (list_all is_name names) (are_different names) (and_parts (list_all is_name names && are_different names) (nat_le (length names) 65535) h).0).1
apart (Some clock) names h =
    let all = clock ∷ names in
    (and_parts (not (list_any (bytes_eq clock) names)) (are_different names) (and_parts (list_all is_name all) (are_different all) (and_parts (list_all is_name all && are_different all) (nat_le (length all) 65535) h).0).1).1

-- a latch's name stands behind those of the inputs
name_at : (net : Blif) (j : ℕ) (latch : Latch) → slice_get net.latches j ≡ Some latch → slice_get (names_of net.inputs net.latches net.nodes) (length net.inputs + j) ≡ Some latch.name
name_at net j latch e =
    let names = map (λ (l : Latch). l.name) net.latches in
    in_front (net.inputs ++ names) (map (λ (node : Node). node.name) net.nodes) (length net.inputs + j) latch.name (behind net.inputs names j ∙ get_map (λ (l : Latch). l.name) net.latches j latch e)

pub latch_names_differ : LatchNamesDiffer
latch_names_differ net j k l m e f same =
    let all = names_of net.inputs net.latches net.nodes in
    let i = one_place all m.name (length net.inputs + j) (length net.inputs + k) (apart net.clock all (names_are net)) (name_at net j l e ∙ ap Some same) (name_at net k m f) in
    omega arith
