-- The text of a job, piece by piece.
use Rattle.std.proofs.Common.{ℕ, zero, suc, ◌≡◌, ◌<◌, ◌+◌, List, [], ◌∷◌, ◌++◌, length, map, take, get_or, refl, sym, ap, ◌∙◌, append_assoc, append-nil, arith}
use Rattle.std.proofs.lemmas.List.{map-append}
use Rattle.std.proofs.lemmas.List.Concat.{flat_map-append}
use Rattle.act1_base.specs.Words.{text_line, text_of_lines}
use Rattle.act1_base.proofs.TextGrows.{text_more}
use Rattle.act1_table.specs.Formats.{own_words}
use Rattle.act1_table.specs.Forms.{line_words}
use Rattle.act1_channel.specs.declared.problem.Connection.{Connection}
use Rattle.act1_channel.specs.declared.problem.Problem.{Problem}
use Rattle.act1_job.specs.Lines.{job_table, numbers_line, job_format, draft_lines, draft_text, job_text}
use Rattle.act1_job.specs.WriteSteps.{head_words, track_words, connection_words}
use Rattle.act1_job.specs.declared.draft.Draft.{Draft}
use Rattle.act1_job.specs.declared.line.JobLine.TheVariants as line

same_read : {A : Type 0} (xs : List A) (i : ℕ) (d : A) → i < length xs → get_or xs i d ≡ get_or xs i (get_or xs i d)
same_read [] i d h = absurd (omega arith)
same_read (x ∷ xs) zero d h = refl
same_read (x ∷ xs) (suc i) d h = same_read xs i d (omega arith)

pub connections_more : (before text new : List ℕ) (connections : List Connection) (i : ℕ) (d : Connection) → i < length connections → text ≡ before ++ text_of_lines (map connection_words (take i connections))
    → new ≡ text ++ text_line (connection_words (get_or connections i d)) → new ≡ before ++ text_of_lines (map connection_words (take (i + 1) connections))
connections_more before text new connections i d h is more =
    more ∙ ap (λ (bytes : List ℕ). bytes ++ text_line (connection_words (get_or connections i d))) is
    ∙ text_more connection_words before connections i (get_or connections i d) h (same_read connections i d h)

tracks_words : (tracks : List (List ℕ)) → map (own_words job_format) (map (λ (breaks : List ℕ). line.Track breaks) tracks) ≡ map track_words tracks
tracks_words [] = refl
tracks_words (breaks ∷ tracks) = ap (λ (ws : List (List (List ℕ))). track_words breaks ∷ ws) (tracks_words tracks)

connections_words : (connections : List Connection) → map (own_words job_format) (map (λ (c : Connection). line.Connection c) connections) ≡ map connection_words connections
connections_words [] = refl
connections_words (c ∷ connections) = ap (λ (ws : List (List (List ℕ))). connection_words c ∷ ws) (connections_words connections)

abbrev end_words : List (List ℕ)
end_words = line_words job_table (numbers_line 6 [])

lines_words : (d : Draft) → map (own_words job_format) (draft_lines d) ≡ head_words d.columns d.k d.budget ++ ((map track_words d.tracks ++ map connection_words d.connections) ++ end_words ∷ [])
lines_words d =
    let own = own_words job_format in
    let tracks = map (λ (breaks : List ℕ). line.Track breaks) d.tracks in
    let connections = map (λ (c : Connection). line.Connection c) d.connections in
    ap (λ (ws : List (List (List ℕ))). head_words d.columns d.k d.budget ++ ws)
    (map-append own (tracks ++ connections) (line.End ∷ [])
    ∙ ap (λ (ws : List (List (List ℕ))). ws ++ end_words ∷ []) (
    map-append own tracks connections
    ∙ ap (λ (ws : List (List (List ℕ))). ws ++ map own connections) (tracks_words d.tracks)
    ∙ ap (λ (ws : List (List (List ℕ))). map track_words d.tracks ++ ws) (connections_words d.connections)))

texts : (a b c : List (List (List ℕ))) (e : List (List ℕ)) → text_of_lines (a ++ ((b ++ c) ++ e ∷ [])) ≡ ((text_of_lines a ++ text_of_lines b) ++ text_of_lines c) ++ text_line e
texts a b c e =
    flat_map-append text_line a ((b ++ c) ++ e ∷ [])
    ∙ ap (λ (bytes : List ℕ). text_of_lines a ++ bytes) (
    flat_map-append text_line (b ++ c) (e ∷ []) ∙ ap (λ (bytes : List ℕ). bytes ++ (text_line e ++ [])) (flat_map-append text_line b c)
    ∙ ap (λ (bytes : List ℕ). (text_of_lines b ++ text_of_lines c) ++ bytes) (append-nil (text_line e)))
    ∙ sym (append_assoc (text_of_lines a) (text_of_lines b ++ text_of_lines c) (text_line e))
    ∙ ap (λ (bytes : List ℕ). bytes ++ text_line e) (sym (append_assoc (text_of_lines a) (text_of_lines b) (text_of_lines c)))

-- the pieces that are written make the text
pub text_is : (d : Draft) → ((text_of_lines (head_words d.columns d.k d.budget) ++ text_of_lines (map track_words d.tracks)) ++ text_of_lines (map connection_words d.connections)) ++ text_line end_words ≡ draft_text d
unfolding draft_text
text_is d =
    sym (ap text_of_lines (lines_words d) ∙ texts (head_words d.columns d.k d.budget) (map track_words d.tracks) (map connection_words d.connections) end_words)

pub written : (problem : Problem) (budget : ℕ) (start head tracks connections whole : List ℕ) (some : List (List ℕ)) (all : List Connection) → start ≡ []
    → head ≡ start ++ text_of_lines (head_words problem.columns problem.k budget)
    → some ≡ problem.tracks → tracks ≡ head ++ text_of_lines (map track_words some)
    → all ≡ problem.connections → connections ≡ tracks ++ text_of_lines (map connection_words all)
    → whole ≡ connections ++ text_line end_words → whole ≡ job_text (record { problem = problem; budget = budget })
written problem budget start head tracks connections whole some all none h some_is t all_is c e =
    e ∙ ap (λ (bytes : List ℕ). bytes ++ text_line end_words) (
    c ∙ ap (λ (cs : List Connection). tracks ++ text_of_lines (map connection_words cs)) all_is
    ∙ ap (λ (bytes : List ℕ). bytes ++ text_of_lines (map connection_words problem.connections)) (
    t ∙ ap (λ (ts : List (List ℕ)). head ++ text_of_lines (map track_words ts)) some_is
    ∙ ap (λ (bytes : List ℕ). bytes ++ text_of_lines (map track_words problem.tracks)) (h ∙ ap (λ (bytes : List ℕ). bytes ++ text_of_lines (head_words problem.columns problem.k budget)) none)))
    ∙ text_is (record { columns = problem.columns; k = problem.k; budget = budget; tracks = problem.tracks; connections = problem.connections })
