use Rattle.std.proofs.Common.{ℕ, List, [], ◌∷◌, ◌++◌, codes, map, refl, ap, ◌∙◌}
use Rattle.act1_base.specs.Words.{text_line, text_of_lines}
use Rattle.act1_cover.specs.declared.forest.Fork.{Fork}
use Rattle.act1_cover.specs.declared.tile.Tile.{Tile}
use Rattle.act1_cover.specs.Text.{NodeCover, fork_lines, tile_words}
use Rattle.act1_cover.proofs.TextGrows.{node_is}
use Rattle.act1_cover.proofs.text.write_node.Goals as goal

pub returns : goal.returns
returns c =
    let forest = c.in_ok-forest.forest in
    let tiles = c.in_ok-cover.cover.tiles in
    let cover : NodeCover = record { name = c.args.node.now.name; forest = forest; tiles = tiles } in
    let before = c.args.text.now.items in
    let named = c.in_ok-write_named.ensures ∙ ap (λ (name : List ℕ). before ++ text_line (codes "node" ∷ name ∷ [])) c.as_bytes.ensures.value in
    let forked = c.in_ok-write_forks.ensures ∙ ap (λ (forks : List Fork). c.write_named.new.text.items ++ text_of_lines (fork_lines 0 forks)) c.as_slice.ensures in
    let now = c.in_ok-write_tiles.ensures ∙ ap (λ (ts : List Tile). c.write_root.new.text.items ++ text_of_lines (map tile_words ts)) c.as_slice-2.ensures in
    record {
      cover = cover;
      is = record { name = refl; forest = c.in_ok-forest.ensures.forest; least = c.in_ok-cover.ensures };
      text = node_is cover before c.write_named.new.text.items c.write_forks.new.text.items c.write_root.new.text.items c.write_tiles.new.text.items named forked c.in_ok-write_root.ensures now;
      tiles = c.len.ensures;
    }
