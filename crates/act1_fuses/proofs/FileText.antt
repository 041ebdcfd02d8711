-- The text of an antifuse file, as it grows.
use Rattle.std.proofs.Common.{ℕ, ◌≡◌, List, [], ◌∷◌, ◌++◌, map, codes, refl, sym, ap, ◌∙◌, append_assoc}
use Rattle.act1_base.specs.Words.{text_line, text_of_lines}
use Rattle.act1_fuses.specs.declared.fuses.FuseFile.{FuseFile}
use Rattle.act1_fuses.specs.Text.{fuse_text, clock_lines, port_words, start_words, site_words}
use Rattle.act1_fuses.proofs.TextLines.{text_of_parts}

-- nine lists put behind one another
in_one : {X : Type 0} (old a b c d e f g h : List X) → old ++ a ++ b ++ c ++ d ++ e ++ f ++ g ++ h ≡ old ++ (a ++ (b ++ (c ++ (d ++ (e ++ (f ++ (g ++ h)))))))
in_one old a b c d e f g h = simp append_assoc refl

-- the parts of the text, each behind those before it, are the text of the file behind what stood there
pub text_of_file : (f : FuseFile) (old head device clock ins outs starts sites end : List ℕ)
    → head ≡ old ++ codes "act1 fuses 1\n"
    → device ≡ head ++ text_line (codes "device" ∷ f.device ∷ [])
    → clock ≡ device ++ text_of_lines (clock_lines f.clock)
    → ins ≡ clock ++ text_of_lines (map (port_words (codes "in")) f.ins)
    → outs ≡ ins ++ text_of_lines (map (port_words (codes "out")) f.outs)
    → starts ≡ outs ++ text_of_lines (map start_words f.starts)
    → sites ≡ starts ++ text_of_lines (map site_words f.sites)
    → end ≡ sites ++ codes "end\n"
    → end ≡ old ++ fuse_text f
text_of_file f old head device clock ins outs starts sites end e1 e2 e3 e4 e5 e6 e7 e8 =
    let first = codes "act1 fuses 1\n" in
    let second = text_line (codes "device" ∷ f.device ∷ []) in
    let clocks = clock_lines f.clock in
    let inputs = map (port_words (codes "in")) f.ins in
    let outputs = map (port_words (codes "out")) f.outs in
    let begins = map start_words f.starts in
    let fuses = map site_words f.sites in
    let last : List (List (List ℕ)) = (codes "end" ∷ []) ∷ [] in
    rw (e8, e7, e6, e5, e4, e3, e2, e1)
    (in_one old first second (text_of_lines clocks) (text_of_lines inputs) (text_of_lines outputs) (text_of_lines begins) (text_of_lines fuses) (text_of_lines last)
    ∙ sym (ap (λ (rest : List ℕ). old ++ (first ++ (second ++ rest))) (text_of_parts clocks inputs outputs begins fuses last)))
