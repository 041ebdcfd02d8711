-- The lines of a netlist's text, as they grow word by word.
use Rattle.std.proofs.Common.{ℕ, ◌≡◌, List, [], ◌∷◌, ◌++◌, codes, append-nil, refl, sym, ap, ◌∙◌, append_assoc}
use Rattle.std.specs.List.{flat_map}
use Rattle.std.proofs.lemmas.List.Concat.{flat_map-append}
use Rattle.act1_base.specs.Words.{text_line, text_of_lines}
use Rattle.act1_base.proofs.TextGrows.{blank_before, line_is}

-- a line of a word and others
pub line_grows : (before a b c word : List ℕ) (words : List (List ℕ)) → a ≡ before ++ word → b ≡ a ++ flat_map (λ w. 32 ∷ w) words → c ≡ b ++ 10 ∷ [] → c ≡ before ++ text_line (word ∷ words)
line_grows before a b c word words e f g = rw (g, f, e) (line_is before word words)

five : (a b c d e : List ℕ) → (((a ++ b) ++ c) ++ d) ++ e ≡ a ++ (b ++ (c ++ (d ++ e)))
five a b c d e = simp append_assoc refl

last_word : (words : List (List ℕ)) (word : List ℕ) → flat_map (λ w. 32 ∷ w) words ++ 32 ∷ word ≡ flat_map (λ w. 32 ∷ w) (words ++ word ∷ [])
last_word words word = ap (λ (rest : List ℕ). flat_map blank_before words ++ rest) (sym (append-nil (32 ∷ word))) ∙ sym (flat_map-append blank_before words (word ∷ []))

-- the words of a latch's line
latch_line : (before a b c : List ℕ) (control : List (List ℕ)) → (((((before ++ codes ".latch") ++ 32 ∷ a) ++ 32 ∷ b) ++ flat_map (λ w. 32 ∷ w) control) ++ 32 ∷ c) ++ 10 ∷ [] ≡ before ++ text_line (codes ".latch" ∷ a ∷ b ∷ control ++ c ∷ [])
latch_line before a b c control =
    ap (λ (text : List ℕ). text ++ 10 ∷ [])
    (five (before ++ codes ".latch") (32 ∷ a) (32 ∷ b) (flat_map blank_before control) (32 ∷ c)
    ∙ ap (λ (rest : List ℕ). (before ++ codes ".latch") ++ ((32 ∷ a) ++ ((32 ∷ b) ++ rest))) (last_word control c))
    ∙ line_is before (codes ".latch") (a ∷ b ∷ control ++ c ∷ [])

pub latch_grows : (before a b c : List ℕ) (control : List (List ℕ)) (t1 t2 t3 t4 t5 t6 : List ℕ)
    → t1 ≡ before ++ codes ".latch" → t2 ≡ t1 ++ 32 ∷ a → t3 ≡ t2 ++ 32 ∷ b → t4 ≡ t3 ++ flat_map (λ w. 32 ∷ w) control → t5 ≡ t4 ++ 32 ∷ c → t6 ≡ t5 ++ 10 ∷ []
    → t6 ≡ before ++ text_line (codes ".latch" ∷ a ∷ b ∷ control ++ c ∷ [])
latch_grows before a b c control t1 t2 t3 t4 t5 t6 e1 e2 e3 e4 e5 e6 = rw (e6, e5, e4, e3, e2, e1) (latch_line before a b c control)

-- the lines of a node
node_text : (before name : List ℕ) (inputs : List (List ℕ)) (rows : List (List (List ℕ))) → ((((before ++ codes ".names") ++ flat_map (λ w. 32 ∷ w) inputs) ++ 32 ∷ name) ++ 10 ∷ []) ++ text_of_lines rows ≡ before ++ text_of_lines ((codes ".names" ∷ inputs ++ name ∷ []) ∷ rows)
node_text before name inputs rows =
    ap (λ (text : List ℕ). text ++ text_of_lines rows) (one_line ∙ line_is before (codes ".names") (inputs ++ name ∷ []))
    ∙ append_assoc before (text_line (codes ".names" ∷ inputs ++ name ∷ [])) (text_of_lines rows)
  where
    one_line : (((before ++ codes ".names") ++ flat_map (λ w. 32 ∷ w) inputs) ++ 32 ∷ name) ++ 10 ∷ [] ≡ ((before ++ codes ".names") ++ flat_map (λ w. 32 ∷ w) (inputs ++ name ∷ [])) ++ 10 ∷ []
    one_line =
        ap (λ (text : List ℕ). text ++ 10 ∷ [])
        (append_assoc (before ++ codes ".names") (flat_map blank_before inputs) (32 ∷ name)
        ∙ ap (λ (rest : List ℕ). (before ++ codes ".names") ++ rest) (last_word inputs name))

pub node_grows : (before name : List ℕ) (inputs : List (List ℕ)) (rows : List (List (List ℕ))) (t1 t2 t3 t4 t5 : List ℕ)
    → t1 ≡ before ++ codes ".names" → t2 ≡ t1 ++ flat_map (λ w. 32 ∷ w) inputs → t3 ≡ t2 ++ 32 ∷ name → t4 ≡ t3 ++ 10 ∷ [] → t5 ≡ t4 ++ text_of_lines rows
    → t5 ≡ before ++ text_of_lines ((codes ".names" ∷ inputs ++ name ∷ []) ∷ rows)
node_grows before name inputs rows t1 t2 t3 t4 t5 e1 e2 e3 e4 e5 = rw (e5, e4, e3, e2, e1) (node_text before name inputs rows)

-- the text of four lists of lines is the text of each, one after the other
pub text_of_parts : (a b c d : List (List (List ℕ))) → text_of_lines (a ++ b ++ c ++ d) ≡ text_of_lines a ++ (text_of_lines b ++ (text_of_lines c ++ text_of_lines d))
text_of_parts a b c d = simp (flat_map-append, append_assoc) refl
