-- The lines of forks and of nodes, as they grow element by element.
use Rattle.std.proofs.Common.{ℕ, suc, zero, ◌≡◌, ◌<◌, ◌≤◌, ◌+◌, codes, List, [], ◌∷◌, ◌++◌, length, map, take, get_or, Some, refl, sym, ap, subst, ◌∙◌, append_assoc, append-nil, add-one, arith}
use Rattle.std.specs.Prelude.{slice_get}
use Rattle.std.specs.List.{AllZip, flat_map}
use Rattle.std.specs.Fmt.{decimal}
use Rattle.act1_blif.specs.declared.blif.Blif.{Blif}
use Rattle.std.proofs.lemmas.List.Concat.{flat_map-append}
use Rattle.act1_base.specs.Words.{text_line, text_of_lines}
use Rattle.act1_base.proofs.ListGets.{get_read}
use Rattle.act1_blif.specs.declared.blif.Node.{Node}
use Rattle.act1_cover.specs.declared.forest.Fork.{Fork}
use Rattle.act1_cover.specs.Text.{NodeCover, IsCoverOf, term_word, tile_words, fork_words, fork_lines, node_lines, tile_count, IsCoverText}
use Rattle.act1_cover.specs.TextSteps.{AddsNode, AddsNodes}

lines_more : (k n : ℕ) (forks : List Fork) (i : ℕ) (f : Fork) → slice_get forks i ≡ Some f → n ≡ k + i → fork_lines k (take (suc i) forks) ≡ fork_lines k (take i forks) ++ fork_words n f ∷ []
lines_more k n [] i f at e = cc
lines_more k n (g ∷ forks) zero f at e =
    let same : g ≡ f = cc in let number : n ≡ k = omega arith in
    ap (λ (x : Fork). fork_words k x ∷ []) same ∙ ap (λ (m : ℕ). fork_words m f ∷ []) (sym number)
lines_more k n (g ∷ forks) (suc i) f at e = ap (λ (ls : List (List (List ℕ))). fork_words k g ∷ ls) (lines_more (suc k) n forks i f at (omega arith))

-- after the lines of the first forks and the line of the next one stand the lines of one more
pub forks_more : (before : List ℕ) (forks : List Fork) (i : ℕ) (f : Fork) → i < length forks → f ≡ get_or forks i f
    → (before ++ text_of_lines (fork_lines 0 (take i forks))) ++ text_line (fork_words i f) ≡ before ++ text_of_lines (fork_lines 0 (take (i + 1) forks))
forks_more before forks i f low is =
    append_assoc before (text_of_lines (fork_lines 0 (take i forks))) (text_line (fork_words i f))
    ∙ ap (λ (ys : List ℕ). before ++ ys)
    (ap (λ (ys : List ℕ). text_of_lines (fork_lines 0 (take i forks)) ++ ys) (sym (append-nil (text_line (fork_words i f))))
    ∙ sym (flat_map-append text_line (fork_lines 0 (take i forks)) (fork_words i f ∷ []))
    ∙ ap text_of_lines (sym (lines_more 0 i forks i f (get_read forks i f low is) (let e : i ≡ 0 + i = omega arith in e)))
    ∙ ap (λ (n : ℕ). text_of_lines (fork_lines 0 (take n forks))) (sym (add-one i)))

zip_more : (nodes : List Node) (covers : List NodeCover) (i : ℕ) (node : Node) (c : NodeCover) → AllZip IsCoverOf (take i nodes) covers → slice_get nodes i ≡ Some node → IsCoverOf node c → AllZip IsCoverOf (take (suc i) nodes) (covers ++ c ∷ [])
zip_more [] covers i node c all at is = cc
zip_more (o ∷ nodes) [] zero node c all at is = (subst (λ (x : Node). IsCoverOf x c) (sym (let e : o ≡ node = cc in e)) is, tt)
zip_more (o ∷ nodes) (d ∷ covers) zero node c all at is = absurd all
zip_more (o ∷ nodes) [] (suc i) node c all at is = absurd all
zip_more (o ∷ nodes) (d ∷ covers) (suc i) node c all at is = (all.0, zip_more nodes covers i node c all.1 at is)

total_push : (covers : List NodeCover) (c : NodeCover) → tile_count (covers ++ c ∷ []) ≡ tile_count covers + length c.tiles
total_push [] c = let e : length c.tiles + 0 ≡ 0 + length c.tiles = omega arith in e
total_push (d ∷ covers) c = let e = total_push covers c in omega arith

pub no_nodes : (nodes : List Node) (before : List ℕ) → AddsNodes (take 0 nodes) before 0 before
no_nodes nodes before = record { covers = []; each = tt; text = sym (append-nil before); tiles = refl }

pub nodes_more : (nodes : List Node) (i : ℕ) (node : Node) (before mid now : List ℕ) (count more all : ℕ) → slice_get nodes i ≡ Some node → AddsNodes (take i nodes) before count mid → AddsNode node mid more now → all ≡ count + more
    → AddsNodes (take (i + 1) nodes) before all now
nodes_more nodes i node before mid now count more all at so_far one sum = record {
  covers = so_far.covers ++ one.cover ∷ [];
  each = subst (λ (n : ℕ). AllZip IsCoverOf (take n nodes) (so_far.covers ++ one.cover ∷ [])) (sym (add-one i)) (zip_more nodes so_far.covers i node one.cover so_far.each at one.is);
  text =
      one.text ∙ ap (λ (ys : List ℕ). ys ++ text_of_lines (node_lines one.cover)) so_far.text
      ∙ append_assoc before (text_of_lines (flat_map node_lines so_far.covers)) (text_of_lines (node_lines one.cover))
      ∙ ap (λ (ys : List ℕ). before ++ ys)
      (sym (flat_map-append text_line (flat_map node_lines so_far.covers) (node_lines one.cover))
      ∙ ap text_of_lines (ap (λ (ls : List (List (List ℕ))). flat_map node_lines so_far.covers ++ ls) (sym (append-nil (node_lines one.cover))) ∙ sym (flat_map-append node_lines so_far.covers (one.cover ∷ []))));
  tiles = (let a = so_far.tiles in let b = one.tiles in let c = total_push so_far.covers one.cover in omega arith);
}

-- all nodes
pub nodes_all : (nodes : List Node) (i : ℕ) (before now : List ℕ) (count : ℕ) → length nodes ≤ i → AddsNodes (take i nodes) before count now → AddsNodes nodes before count now
nodes_all nodes i before now count ended a = subst (λ (ns : List Node). AddsNodes ns before count now) (whole nodes i ended) a
  where
    whole : (ns : List Node) (i : ℕ) → length ns ≤ i → take i ns ≡ ns
    whole [] zero h = refl
    whole [] (suc i) h = refl
    whole (n ∷ ns) zero h = absurd (omega arith)
    whole (n ∷ ns) (suc i) h = ap (λ (ms : List Node). n ∷ ms) (whole ns i (omega arith))

regroup : (h n t e : List ℕ) → ((h ++ n) ++ t) ++ e ≡ h ++ (n ++ (t ++ (e ++ [])))
regroup h n t e = append_assoc (h ++ n) t e ∙ append_assoc h n (t ++ e) ∙ ap (λ (ys : List ℕ). h ++ (n ++ (t ++ ys))) (sym (append-nil e))

abbrev head_line : List ℕ
head_line = text_line (codes "act1" ∷ codes "cover" ∷ codes "1" ∷ [])

abbrev tiles_line : ℕ → List ℕ
tiles_line n = text_line (codes "tiles" ∷ decimal n ∷ [])

abbrev end_line : List ℕ
end_line = text_line (codes "end" ∷ [])

-- the whole text
pub cover_is : (b : Blif) (count : ℕ) (mid : List ℕ) → AddsNodes b.nodes (text_line (codes "act1" ∷ codes "cover" ∷ codes "1" ∷ [])) count mid
    → IsCoverText b ((mid ++ text_line (codes "tiles" ∷ decimal count ∷ [])) ++ text_line (codes "end" ∷ []))
cover_is b count mid a = record {
  covers = a.covers;
  each = a.each;
  is =
      ap (λ (ys : List ℕ). (ys ++ tiles_line count) ++ end_line) a.text
      ∙ regroup head_line (text_of_lines (flat_map node_lines a.covers)) (tiles_line count) end_line
      ∙ ap (λ (n : ℕ). head_line ++ (text_of_lines (flat_map node_lines a.covers) ++ (tiles_line n ++ (end_line ++ [])))) a.tiles
      ∙ ap (λ (ys : List ℕ). head_line ++ ys) (sym (flat_map-append text_line (flat_map node_lines a.covers) ((codes "tiles" ∷ decimal (tile_count a.covers) ∷ []) ∷ (codes "end" ∷ []) ∷ [])));
}

regroup_node : (b n f r t : List ℕ) → (((b ++ n) ++ f) ++ r) ++ t ≡ b ++ ((n ++ f) ++ (r ++ t))
regroup_node b n f r t = append_assoc ((b ++ n) ++ f) r t ∙ ap (λ (ys : List ℕ). ys ++ (r ++ t)) (append_assoc b n f) ∙ append_assoc b (n ++ f) (r ++ t)

-- the lines of a node
pub node_is : (c : NodeCover) (before named forked rooted now : List ℕ) → named ≡ before ++ text_line (codes "node" ∷ c.name ∷ []) → forked ≡ named ++ text_of_lines (fork_lines 0 c.forest.forks)
    → rooted ≡ forked ++ text_line (codes "root" ∷ term_word c.forest.root ∷ []) → now ≡ rooted ++ text_of_lines (map tile_words c.tiles) → now ≡ before ++ text_of_lines (node_lines c)
node_is c before named forked rooted now e f g h =
    let n = text_line (codes "node" ∷ c.name ∷ []) in
    let fs = text_of_lines (fork_lines 0 c.forest.forks) in
    let r = text_line (codes "root" ∷ term_word c.forest.root ∷ []) in
    let t = text_of_lines (map tile_words c.tiles) in
    h ∙ ap (λ (ys : List ℕ). ys ++ t) (g ∙ ap (λ (ys : List ℕ). ys ++ r) (f ∙ ap (λ (ys : List ℕ). ys ++ fs) e))
    ∙ regroup_node before n fs r t
    ∙ ap (λ (ys : List ℕ). before ++ ys) (sym (flat_map-append text_line ((codes "node" ∷ c.name ∷ []) ∷ fork_lines 0 c.forest.forks) ((codes "root" ∷ term_word c.forest.root ∷ []) ∷ map tile_words c.tiles)))
