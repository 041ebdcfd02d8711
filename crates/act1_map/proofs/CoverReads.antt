-- What is known of the signals that a node reads.
use Rattle.std.proofs.Common.{ℕ, ◌≡◌, ◌+◌, ◌<◌, List, [], ◌∷◌, ◌++◌, length, take, get_or, Option, Some, None, refl, sym, ap, subst, ◌∙◌}
use Rattle.std.specs.Prelude.{Contains, slice_get, slice_index_or}
use Rattle.std.specs.List.{cons_option, filter_map}
use Rattle.std.specs.Option.{option_to_list}
use Rattle.std.proofs.lemmas.List.Elements.{filter_map-append}
use Rattle.std.proofs.lemmas.List.{take_more}
use Rattle.std.proofs.lemmas.Option.{slice_get-get_or}
use Rattle.act1_blif.specs.declared.blif.Node.{Node}
use Rattle.act1_cover.specs.declared.forest.Term.{Term}
use Rattle.act1_cover.specs.declared.forest.Term.TheVariants as term
use Rattle.act1_cover.specs.declared.tile.Tile.{Tile}
use Rattle.act1_cover.specs.Pins.{pins_of}
use Rattle.act1_cover.specs.Tilings.{MayStand}
use Rattle.act1_map.specs.CoverSteps.{AsksWithin, IsCovered}
use Rattle.act1_map.specs.declared.covers.Covered.{Covered}
use Rattle.act1_map.proofs.CoverInputs.{cover_asks, pin_asks}

asks_of : (w : ℕ) (e : Term) → ((v : ℕ) → e ≡ term.Var v → v < w) → AsksWithin w e
asks_of w (term.Var v) h = h v refl
asks_of w term.Zero h = tt
asks_of w term.One h = tt
asks_of w (term.Fork j) h = tt

module _ (node : Node) (c : Covered) (is : IsCovered node c) (inputs : List ℕ) (same : inputs ≡ node.inputs) (wide : node.cover.width ≡ length node.inputs) where
  width_is : node.cover.width ≡ length inputs
  width_is = wide ∙ ap length (sym same)

  pub root_asks : AsksWithin (length inputs) c.forest.root
  root_asks = subst (λ (w : ℕ). AsksWithin w c.forest.root) width_is (asks_of node.cover.width c.forest.root (cover_asks node.cover c.forest is.forest).root)

  pub tile_asks : (u : Tile) (pins : List Term) → MayStand c.forest u.fork u.shape → pins ≡ pins_of c.forest u → (e : Term) → Contains pins e → AsksWithin (length inputs) e
  tile_asks u pins stands is_pins e h =
      subst (λ (w : ℕ). AsksWithin w e) width_is (asks_of node.cover.width e
      (pin_asks c.forest is.is_forest node.cover.width (cover_asks node.cover c.forest is.forest) u stands e (subst (λ (ps : List Term). Contains ps e) is_pins h)))

pub tile_stands : (node : Node) (c : Covered) → IsCovered node c → (tiles : List Tile) → tiles ≡ c.cover.tiles → (i : ℕ) (d : Tile) → i < length tiles → MayStand c.forest (slice_index_or tiles i d).fork (slice_index_or tiles i d).shape
tile_stands node c is tiles same i d low =
    is.least.tiling.stand i (slice_index_or tiles i d) (ap (λ (us : List Tile). slice_get us i) (sym same) ∙ slice_get-get_or tiles i d low)

assoc : {X : Type 0} (xs ys zs : List X) → (xs ++ ys) ++ zs ≡ xs ++ (ys ++ zs)
assoc [] ys zs = refl
assoc {X} (x ∷ xs) ys zs = ap (λ (us : List X). x ∷ us) (assoc xs ys zs)

-- what the element at a place adds
pub add_more : {X Y : Type 0} (h : X → Option Y) (xs : List X) (i : ℕ) (d : X) (old now new : List Y) → i < length xs → now ≡ old ++ filter_map h (take i xs) → new ≡ now ++ option_to_list (h (get_or xs i d))
    → new ≡ old ++ filter_map h (take (i + 1) xs)
add_more {X} {Y} h xs i d old now new low before is =
    is ∙ ap (λ (ys : List Y). ys ++ option_to_list (h (get_or xs i d))) before ∙ assoc old (filter_map h (take i xs)) (option_to_list (h (get_or xs i d)))
    ∙ ap (λ (ys : List Y). old ++ ys) (sym (ap (filter_map h) (take_more xs i d low) ∙ filter_map-append h (take i xs) (get_or xs i d ∷ []) ∙ ap (λ (ys : List Y). filter_map h (take i xs) ++ ys) (one (h (get_or xs i d)))))
  where
    one : (o : Option Y) → cons_option o [] ≡ option_to_list o
    one None = refl
    one (Some y) = refl
