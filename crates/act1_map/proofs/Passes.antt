-- Lists that loops make element by element, with what is still to come.
use Rattle.std.proofs.Common.{ℕ, zero, suc, ◌≡◌, ◌⊎◌, ◌+◌, ◌<◌, ◌≤◌, List, [], ◌∷◌, ◌++◌, length, take, drop, get_or, Some, refl, sym, ap, subst, ◌∙◌, inl, inr, append_assoc, add-one, arith}
use Rattle.std.specs.Prelude.{slice_get, slice_index_or}
use Rattle.std.specs.List.{AllZip}
use Rattle.std.proofs.lemmas.Bool.{cases_lt}
use Rattle.std.proofs.lemmas.List.{drop_more, length-append, take_all}
use Rattle.act1_blif.specs.declared.blif.Node.{Node}
use Rattle.act1_circuit.specs.declared.circuit.Source.{Source}
use Rattle.act1_circuit.specs.declared.circuit.Source.TheVariants.{Module}
use Rattle.act1_cover.specs.Tilings.{total}
use Rattle.act1_map.specs.declared.covers.Covered.{Covered}
use Rattle.act1_map.specs.CoverSteps.{reads_of_cover}
use Rattle.act1_map.specs.Least.{IsLeastOfNode}
use Rattle.act1_map.specs.MapSteps.{AreLeastOf, at_first, reads_of_covers, slave_at}
use Rattle.act1_map.proofs.Gets.{some_same}

-- the element that was read is the first of those to come
pub rest_read : {X : Type 0} (xs : List X) (i : ℕ) (x : X) → i < length xs → x ≡ get_or xs i x → drop i xs ≡ x ∷ drop (i + 1) xs
rest_read {X} xs i x low e = drop_more xs i x low ∙ ap (λ (y : X). y ∷ drop (i + 1) xs) (sym e)

-- what was made, with what is still to come, is all
pub made_more : {X : Type 0} (now new more rest left all : List X) → new ≡ now ++ more → rest ≡ more ++ left → now ++ rest ≡ all → new ++ left ≡ all
made_more {X} now new more rest left all is to_come before = ap (λ (ys : List X). ys ++ left) is ∙ append_assoc now more left ∙ ap (λ (ys : List X). now ++ ys) (sym to_come) ∙ before

-- an element of two lists, one after the other
pub get_either : {X : Type 0} (xs ys : List X) (m : ℕ) (x : X) → slice_get (xs ++ ys) m ≡ Some x → (slice_get xs m ≡ Some x) ⊎ ((k : ℕ) × (m ≡ length xs + k) × (slice_get ys k ≡ Some x))
get_either [] ys m x e = inr (m, omega arith, e)
get_either (y ∷ xs) ys zero x e = inl e
get_either (y ∷ xs) ys (suc m) x e = later (get_either xs ys m x e)
  where
    later : (slice_get xs m ≡ Some x) ⊎ ((k : ℕ) × (m ≡ length xs + k) × (slice_get ys k ≡ Some x)) → (slice_get xs m ≡ Some x) ⊎ ((k : ℕ) × (suc m ≡ length (y ∷ xs) + k) × (slice_get ys k ≡ Some x))
    later (inl h) = inl h
    later (inr (k, s, h)) = inr (k, omega arith, h)

pub get_left : {X : Type 0} (xs ys : List X) (m : ℕ) (x : X) → slice_get xs m ≡ Some x → slice_get (xs ++ ys) m ≡ Some x
get_left [] ys m x e = cc
get_left (y ∷ xs) ys zero x e = e
get_left (y ∷ xs) ys (suc m) x e = get_left xs ys m x e

pub get_right : {X : Type 0} (xs ys : List X) (m k : ℕ) (x : X) → m ≡ length xs + k → slice_get ys k ≡ Some x → slice_get (xs ++ ys) m ≡ Some x
get_right [] ys m k x s e = ap (slice_get ys) (let h : m ≡ k = omega arith in h) ∙ e
get_right (y ∷ xs) ys zero k x s e = absurd (omega arith)
get_right (y ∷ xs) ys (suc m) k x s e = get_right xs ys m k x (omega arith) e

pub or_left : {X : Type 0} (xs ys : List X) (m : ℕ) (d : X) → m < length xs → slice_index_or (xs ++ ys) m d ≡ slice_index_or xs m d
or_left [] ys m d low = absurd (omega arith)
or_left (y ∷ xs) ys zero d low = refl
or_left (y ∷ xs) ys (suc m) d low = or_left xs ys m d (omega arith)

pub or_right : {X : Type 0} (xs ys : List X) (m k : ℕ) (d : X) → m ≡ length xs + k → slice_index_or (xs ++ ys) m d ≡ slice_index_or ys k d
or_right {X} [] ys m k d s = ap (λ (i : ℕ). slice_index_or ys i d) (let h : m ≡ k = omega arith in h)
or_right (y ∷ xs) ys zero k d s = absurd (omega arith)
or_right (y ∷ xs) ys (suc m) k d s = or_right xs ys m k d (omega arith)

-- what a function gives at the first numbers
pub first_count : {X : Type 0} (f : ℕ → X) (n : ℕ) → length (at_first f n) ≡ n
first_count f zero = refl
first_count f (suc n) = let a = length-append (at_first f n) (f n ∷ []) in let r = first_count f n in omega arith

pub first_more : {X : Type 0} (f : ℕ → X) (n : ℕ) → at_first f n ++ f n ∷ [] ≡ at_first f (n + 1)
first_more f n = ap (at_first f) (sym (add-one n))

pub first_at : {X : Type 0} (f : ℕ → X) (n i : ℕ) (d : X) → i < n → slice_index_or (at_first f n) i d ≡ f i
first_at f zero i d low = absurd (omega arith)
first_at {X} f (suc n) i d low = by (cases_lt i n) (first_at f n i d)
  where
    by : (i < n) ⊎ (n ≤ i) → (i < n → slice_index_or (at_first f n) i d ≡ f i) → slice_index_or (at_first f n ++ f n ∷ []) i d ≡ f i
    by (inl l) rest = or_left (at_first f n) (f n ∷ []) i d (let c = first_count f n in omega arith) ∙ rest l
    by (inr h) rest = or_right (at_first f n) (f n ∷ []) i 0 d (let c = first_count f n in omega arith) ∙ ap f (let e : n ≡ i = omega arith in e)

-- the tiles of no nodes, of one node more, and of all
pub none_counted : (nodes : List Node) → AreLeastOf (take 0 nodes) 0
none_counted nodes = record { counts = []; each = tt; is = refl }

zip_more : (nodes : List Node) (counts : List ℕ) (i : ℕ) (node : Node) (k : ℕ) → AllZip IsLeastOfNode (take i nodes) counts → slice_get nodes i ≡ Some node → IsLeastOfNode node k → AllZip IsLeastOfNode (take (suc i) nodes) (counts ++ k ∷ [])
zip_more [] counts i node k all at is = cc
zip_more (o ∷ nodes) [] zero node k all at is = (subst (λ (x : Node). IsLeastOfNode x k) (sym (some_same o node at)) is, tt)
zip_more (o ∷ nodes) (d ∷ counts) zero node k all at is = absurd all
zip_more (o ∷ nodes) [] (suc i) node k all at is = absurd all
zip_more (o ∷ nodes) (d ∷ counts) (suc i) node k all at is = (all.0, zip_more nodes counts i node k all.1 at is)

total_push : (counts : List ℕ) (k : ℕ) → total (λ (n : ℕ). n) (counts ++ k ∷ []) ≡ total (λ (n : ℕ). n) counts + k
total_push [] k = omega arith
total_push (d ∷ counts) k = let e = total_push counts k in omega arith

pub node_counted : (nodes : List Node) (i : ℕ) (node : Node) (count more all : ℕ) → slice_get nodes i ≡ Some node → AreLeastOf (take i nodes) count → IsLeastOfNode node more → all ≡ count + more → AreLeastOf (take (i + 1) nodes) all
node_counted nodes i node count more all at so_far one sum = record {
  counts = so_far.counts ++ more ∷ [];
  each = subst (λ (n : ℕ). AllZip IsLeastOfNode (take n nodes) (so_far.counts ++ more ∷ [])) (sym (add-one i)) (zip_more nodes so_far.counts i node more so_far.each at one);
  is = (let a = so_far.is in let c = total_push so_far.counts more in omega arith);
}

pub nodes_counted : (nodes : List Node) (i count : ℕ) → length nodes ≤ i → AreLeastOf (take i nodes) count → AreLeastOf nodes count
nodes_counted nodes i count ended a = subst (λ (ns : List Node). AreLeastOf ns count) (take_all i nodes ended) a

-- what one node more reads
pub reads_more : (nodes more_nodes : List Node) (cs more_cs : List Covered) (node : Node) (c : Covered) (row : List ℕ) (now new all : List (List ℕ)) → nodes ≡ node ∷ more_nodes → cs ≡ c ∷ more_cs → row ≡ reads_of_cover node.inputs c
    → new ≡ now ++ row ∷ [] → now ++ reads_of_covers nodes cs ≡ all → new ++ reads_of_covers more_nodes more_cs ≡ all
reads_more nodes more_nodes cs more_cs node c row now new all is_node is_c is_row is before =
    made_more now new (row ∷ []) (reads_of_covers nodes cs) (reads_of_covers more_nodes more_cs) all is
    (ap (λ (ns : List Node). reads_of_covers ns cs) is_node ∙ ap (reads_of_covers (node ∷ more_nodes)) is_c ∙ ap (λ (r : List ℕ). r ∷ reads_of_covers more_nodes more_cs) (sym is_row)) before

-- one latch more has its slave as its source
pub slave_more : (tiles n s : ℕ) (front now new : List Source) → new ≡ now ++ Module s ∷ [] → s ≡ slave_at tiles n → now ≡ front ++ at_first (λ j. Module (slave_at tiles j)) n → new ≡ front ++ at_first (λ j. Module (slave_at tiles j)) (n + 1)
slave_more tiles n s front now new is number before =
    let made : List Source = at_first (λ j. Module (slave_at tiles j)) n in
    is ∙ ap (λ (ss : List Source). ss ++ Module s ∷ []) before ∙ append_assoc front made (Module s ∷ [])
    ∙ ap (λ (ss : List Source). front ++ ss) (ap (λ (k : ℕ). made ++ Module k ∷ []) number ∙ first_more (λ j. Module (slave_at tiles j)) n)
