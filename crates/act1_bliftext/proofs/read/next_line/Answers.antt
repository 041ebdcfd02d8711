use Rattle.std.proofs.Common.{ℕ, List, ◌≡◌, ◌≤◌, ◌+◌, ◌++◌, length, None, refl, sym, ap, subst, ◌∙◌}
use Rattle.std.specs.Option.{option_map}
use Rattle.std.specs.Borrow.{Bor}
use Rattle.act1_bliftext.specs.Lines.{before_backslash, without_comment, words_of}
use Rattle.act1_bliftext.specs.PlaceSteps.{bytes_of, kept_bytes}
use Rattle.act1_bliftext.specs.ReadingSteps.{open_marks}
use Rattle.act1_bliftext.proofs.Bounds.{code_fits, front_line_fits, kept_more, le_below, kept_at_most}
use Rattle.act1_bliftext.proofs.PlaceLemmas.{comes_to_end}
use Rattle.act1_bliftext.proofs.read.next_line.Goals as goal

pub end_line-requires : goal.end_line-requires
end_line-requires c =
    let few : length c.without_comment-code.result.now ≤ length c.args.line.now = subst (λ (code : List ℕ). length code ≤ length c.args.line.now) (sym c.without_comment-code.ensures) (code_fits c.args.line.now) in
    le_below _ (kept_bytes c.args.place.now + length c.args.line.now) _
    (kept_more (open_marks c.args.place.now.reading.open_names) c.args.place.now.words.items c.add_words-in-None.new.words.items c.without_comment-code.result.now (length c.args.line.now) c.in_ok-add_words-in-None.ensures few) c.requires.few

pub returns-in_ok-add_words-in-Some-clause-kept : goal.returns-in_ok-add_words-in-Some-clause-kept
returns-in_ok-add_words-in-Some-clause-kept c =
    kept_more (open_marks c.args.place.now.reading.open_names) c.args.place.now.words.items c.add_words.new.words.items c.in-Some.front.now (length c.args.line.now) c.in_ok-add_words-in-Some.ensures
    (front_line_fits c.args.line.now c.without_comment-code.result.now c.in-Some.front.now c.without_comment-code.ensures (sym c.before_backslash.ensures ∙ ap (option_map (λ (front : Bor (List ℕ)). front.now)) c.in-Some.is))

pub returns-in_ok-add_words-in-None-clause-goes : goal.returns-in_ok-add_words-in-None-clause-goes
returns-in_ok-add_words-in-None-clause-goes c = λ all raws h.
    let ends : before_backslash (without_comment c.args.line.now) ≡ None =
    ap before_backslash (sym c.without_comment-code.ensures) ∙ sym c.before_backslash.ensures ∙ ap (option_map (λ (front : Bor (List ℕ)). front.now)) c.in-None.is in
    let words : bytes_of c.add_words-in-None.new.words.items ≡ bytes_of c.args.place.now.words.items ++ words_of (without_comment c.args.line.now) =
    c.in_ok-add_words-in-None.ensures ∙ ap (λ (code : List ℕ). bytes_of c.args.place.now.words.items ++ words_of code) c.without_comment-code.ensures in
    c.end_line.ensures.goes all raws
    (comes_to_end all c.args.line.now raws c.args.place.now (record { reading = c.args.place.now.reading; words = c.add_words-in-None.new.words; first = c.args.place.now.first; number = c.args.place.now.number + 1 }) ends refl refl refl words h)

pub returns-in_ok-add_words-in-None-clause-kept : goal.returns-in_ok-add_words-in-None-clause-kept
returns-in_ok-add_words-in-None-clause-kept c =
    let few : length c.without_comment-code.result.now ≤ length c.args.line.now = subst (λ (code : List ℕ). length code ≤ length c.args.line.now) (sym c.without_comment-code.ensures) (code_fits c.args.line.now) in
    kept_at_most c.end_line.result (kept_bytes c.end_line.new.place) _ (kept_bytes c.args.place.now + length c.args.line.now) c.end_line.ensures.kept
    (kept_more (open_marks c.args.place.now.reading.open_names) c.args.place.now.words.items c.add_words-in-None.new.words.items c.without_comment-code.result.now (length c.args.line.now) c.in_ok-add_words-in-None.ensures few)
