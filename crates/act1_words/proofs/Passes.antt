-- The values that a parse gives passed the parsers of their arguments.
use Rattle.std.proofs.Common.{◌≡◌, ◌<◌, ℕ, true, false, zero, suc, List, [], ◌∷◌, length, Option, Some, None, option_map, refl, sym, ap, ◌∙◌, subst, inl, inr, map, arith, codes}
use Rattle.std.specs.Prelude.{slice_get}
use Rattle.std.specs.List.{All, slice_index_or}
use Rattle.std.specs.Str.{bytes_eq}
use Rattle.std.specs.Borrow.{Bor}
use Rattle.std.proofs.lemmas.Bool.{cases_lt}
use Rattle.std.proofs.lemmas.Slice.Eq.{bytes_eq-Decides}
use Rattle.std.proofs.lemmas.List.Elements.{All-get_or}
use Rattle.std.proofs.lemmas.Bool.{and_parts, false≢true}
use Rattle.std.proofs.Common.{not, ◌&&◌}
use Rattle.clap.specs.declared.builder.value_parser.ValueParser.TheVariants.{Unsigned}
use Rattle.clap.specs.Words.{App, Rule, Text, app_of, args_of, found_of, first_value, groups_of, matched_of, rule_of, shape_of, IsParsedFrom, Accepts}
use Rattle.clap.specs.Facts.{Entry, EntryPasses, PassesArg, parser_of, parser_of_value}
use Rattle.clap.specs.Built.{IsAuto}
use Rattle.clap.specs.declared.builder.arg.Arg.{Arg}
use Rattle.clap.specs.declared.builder.command.Command.{Command}
use Rattle.clap.specs.declared.builder.value_parser.ValueParser.{ValueParser}
use Rattle.clap.specs.declared.parser.matches.ArgMatches.{ArgMatches}
use Rattle.clap.specs.declared.parser.matches.MatchedArg.{MatchedArg}
use Rattle.clap.proofs.CallerLemmas.{entry_by_id}
use Rattle.clap.specs.Words.{HasMatchesOf, first_of, is_simple, is_simple_and_free, matches_of}
use Rattle.clap.proofs.WalkLemmas.{first_value-rows}
use Rattle.act1_words.specs.Given.{IsBetween, is_number, is_own, is_range, number_or_zero}
use Rattle.act1_words.proofs.NumberReads.{optional_number}
use Rattle.std.specs.List.{list_all}
use Rattle.std.specs.Option.{option_map_or}
use Rattle.std.specs.Prelude.{◌==◌, ◌||◌, nat_le}
use Rattle.std.proofs.Common.{Bool as CoreBool}
use borrow.Author.Tests.{eqb-true}
use Rattle.std.proofs.lemmas.Bool.{leb-true}
use Rattle.clap.specs.declared.builder.value_parser.ValueParser.TheVariants.{String, NonEmptyString, Bool, Boolish, Falsey, Signed, Float, Char, Names, Values}
use Rattle.clap.proofs.SimpleLemmas.{plain_fields, simple_groups, all_simple}

-- each argument with the id has the parser
abbrev HasParser : Text → ValueParser → List Rule → Type 0
HasParser id q [] = Unit {0}
HasParser id q (r ∷ rs) = (bytes_eq r.id id ≡ true → r.parser ≡ Some q) × HasParser id q rs

range_parser : (low high : ℕ) (o : Option ValueParser) → is_range low high o ≡ true → o ≡ Some (Unsigned low high)
range_parser low high (Some (Unsigned a b)) h =
    let parts = and_parts (a == low) (b == high) h in
    rw (eqb-true a low parts.0, eqb-true b high parts.1) refl
range_parser low high None h = absurd (false≢true h)
range_parser low high (Some String) h = absurd (false≢true h)
range_parser low high (Some NonEmptyString) h = absurd (false≢true h)
range_parser low high (Some Bool) h = absurd (false≢true h)
range_parser low high (Some Boolish) h = absurd (false≢true h)
range_parser low high (Some Falsey) h = absurd (false≢true h)
range_parser low high (Some (Signed a b)) h = absurd (false≢true h)
range_parser low high (Some Float) h = absurd (false≢true h)
range_parser low high (Some Char) h = absurd (false≢true h)
range_parser low high (Some (Names ns)) h = absurd (false≢true h)
range_parser low high (Some (Values vs)) h = absurd (false≢true h)

or_else : (a b : CoreBool) → (not a || b) ≡ true → a ≡ true → b ≡ true
or_else true b h is = h
or_else false b h is = absurd (false≢true is)

has_parser : (id : Text) (low high : ℕ) (rules : List Rule) → list_all (λ r. not (bytes_eq r.id id) || is_range low high r.parser) rules ≡ true → HasParser id (Unsigned low high) rules
has_parser id low high [] h = tt
has_parser id low high (r ∷ rs) h =
    let parts = and_parts (not (bytes_eq r.id id) || is_range low high r.parser) _ h in
    ((λ same. range_parser low high r.parser (or_else (bytes_eq r.id id) _ parts.0 same)), has_parser id low high rs parts.1)

parser_at : (id : Text) (q : ValueParser) (xs : List Arg) (j : ℕ) (d : Arg) → HasParser id q (map rule_of xs) → j < length xs
    → bytes_eq (slice_index_or xs j d).id.now id ≡ true → (slice_index_or xs j d).value_parser ≡ Some q
parser_at id q [] j d h low same = absurd (omega arith)
parser_at id q (x ∷ xs) zero d h low same = h.0 same
parser_at id q (x ∷ xs) (suc j) d h low same = parser_at id q xs j d h.1 (omega arith) same

-- the first value is one of those that pass
first_passes : (P : Bor Text → Type 0) (Q : Text → Type 0) (vs : List (Bor Text)) (t : Text) → ((v : Bor Text) → P v → Q v.now) → All P vs
    → option_map (λ s. s.now) (slice_get vs 0) ≡ Some t → Q t
first_passes P Q [] t f h is = cc
first_passes P Q (v ∷ vs) t f h is = let same : v.now ≡ t = cc in subst Q same (f v (All-get_or P (v ∷ vs) 0 v (omega arith) h))

-- a value that passed as some argument of the built command with this id passed this parser
passes_as : (old : Command) (m : ArgMatches) (p : IsParsedFrom old m) (id t : Text) (q : ValueParser)
    → (id ≡ codes "help" → ⊥) → (id ≡ codes "version" → ⊥) → HasParser id q (map rule_of (args_of old))
    → PassesArg p.built id t → (b : CoreBool) × Accepts b q t
passes_as old m p id t q help version only any =
    let j = any.0 in
    let y = any.1 in
    let y_id : y.id.now ≡ id = (bytes_eq-Decides y.id.now id).0 any.4.0 in
    elim (cases_lt j (length (args_of old))) [
      | inl under ↦
          let s = (p.from.kept j y under).1 in
          let as_id : (slice_index_or (args_of old) j y).id.now ≡ id = ap (λ x. x.now) (sym s.id) ∙ (ap (λ (x : Arg). x.id.now) any.3 ∙ y_id) in
          let old_q = parser_at id q (args_of old) j y only under ((bytes_eq-Decides _ id).1 as_id) in
          let is_q : parser_of y ≡ q = ap parser_of (sym any.3) ∙ ap parser_of_value (s.parser q old_q) in
          (y.ignore_case, subst (λ (w : ValueParser). Accepts y.ignore_case w t) is_q any.4.1)
      | inr over ↦
          let flag = subst IsAuto any.3 (p.from.extra j y over any.2) in
          absurd (elim flag [ inl h ↦ help (sym y_id ∙ h) | inr h ↦ version (sym y_id ∙ h) ])
    ]

own_nil : (id : Text) → is_own id ≡ true → id ≡ [] → ⊥
own_nil id own e = let bad : false ≡ true = rw e at own in false≢true bad

own_help : (id : Text) → is_own id ≡ true → id ≡ codes "help" → ⊥
own_help id own e = let bad : false ≡ true = rw e at own in false≢true bad

own_version : (id : Text) → is_own id ≡ true → id ≡ codes "version" → ⊥
own_version id own e = let bad : false ≡ true = rw e at own in false≢true bad

-- a value that a parse gave to an id passed the parser that each argument with that id has
pub given_passes : (old : Command) (m : ArgMatches) (app : App) (id t : Text) (q : ValueParser) → IsParsedFrom old m → app_of old ≡ app
    → app.top.is_plain ≡ true → all_simple app.top.rules ≡ true → is_own id ≡ true
    → HasParser id q app.top.rules → first_value (found_of m) id ≡ Some t → (b : CoreBool) × Accepts b q t
given_passes old m app id t q p is plain simple own only given =
    let top : shape_of old ≡ app.top = ap (λ (a : App). a.top) is in
    let fields = plain_fields old (ap (λ s. s.is_plain) top ∙ plain) in
    let parsed = p.parsed (p.from.globals ∙ fields.globals) in
    let same = (p.from.same_groups (simple_groups old (ap (λ s. all_simple s.rules) top ∙ simple))).1 in
    let no_groups : groups_of p.built ≡ [] = same ∙ fields.groups in
    let only_old : HasParser id q (map rule_of (args_of old)) = subst (HasParser id q) (sym (ap (λ s. s.rules) top)) only in
    go no_groups only_old (matched_of (found_of m) id) refl given parsed.values
  where
    at_entry : (x : MatchedArg) → groups_of p.built ≡ [] → HasParser id q (map rule_of (args_of old)) → option_map (λ s. s.now) (slice_get x.vals.items 0) ≡ Some t
        → (e : Entry) × (e.1 ≡ x) × (bytes_eq e.0.now id ≡ true) × EntryPasses p.built e → (b : CoreBool) × Accepts b q t
    at_entry x no_groups only_old first got =
        let key : got.0.0.now ≡ id = (bytes_eq-Decides got.0.0.now id).0 got.2 in
        elim got.3.0 [
          | inl g ↦ elim (got.3.3 g) [
            | inl empty ↦ absurd (own_nil id own (sym key ∙ empty))
            | inr lots ↦
                let bad : 0 < 0 = rw no_groups at lots in
                absurd (omega arith)
          ]
          | inr vals ↦ first_passes _ (λ w. (b : CoreBool) × Accepts b q w) x.vals.items t
              (λ v pass. passes_as old m p id v.now q (own_help id own) (own_version id own) only_old pass)
              (subst (λ (w : Text). All (λ v. PassesArg p.built w v.now) x.vals.items) key (rw got.1 at vals)) first
        ]

    go : groups_of p.built ≡ [] → HasParser id q (map rule_of (args_of old)) → (o : Option MatchedArg) → matched_of (found_of m) id ≡ o → first_value (found_of m) id ≡ Some t
        → All (EntryPasses p.built) (found_of m).entries.items → (b : CoreBool) × Accepts b q t
    go no_groups only_old None e given values = let bad : None ≡ Some t = rw e at given in cc
    go no_groups only_old (Some x) e given values = at_entry x no_groups only_old (rw e at given) (entry_by_id (EntryPasses p.built) (found_of m).entries.items id x values e)

-- what is known of a simple command
simple_top : (app : App) → is_simple_and_free app ≡ true → (is_simple app ≡ true) × (app.top.is_plain ≡ true) × (all_simple app.top.rules ≡ true)
simple_top app h =
    let simple = (and_parts (is_simple app) _ h).0 in
    let buildable = (and_parts _ _ simple).0 in
    let top = (and_parts _ _ buildable).0 in
    let parts = and_parts app.top.is_plain (all_simple app.top.rules) top in
    (simple, parts.0, parts.1)

-- a parse gives what the words give
pub given_by_words : (app : App) (words : List Text) (m : ArgMatches) → is_simple_and_free app ≡ true → HasMatchesOf app words m
    → (id : Text) → first_value (found_of m) id ≡ first_of id (matches_of app words)
given_by_words app words m free h id = first_value-rows (found_of m) id ∙ ap (first_of id) (h (simple_top app free).0).0

-- a number that a parse gives is in its range
pub given_in_range : (old : Command) (m : ArgMatches) → is_simple_and_free (app_of old) ≡ true → IsParsedFrom old m
    → (id : Text) (low high default : ℕ) → is_number id low high default (app_of old).top.rules ≡ true
    → IsBetween low high (option_map_or number_or_zero (first_value (found_of m) id) default)
given_in_range old m free p id low high default h =
    let top = simple_top (app_of old) free in
    let parts = and_parts (is_own id && (nat_le low default && nat_le default high)) _ h in
    let own = and_parts (is_own id) _ parts.0 in
    let ends = and_parts (nat_le low default) _ own.1 in
    optional_number (first_value (found_of m) id) low high default
    (λ t given. (given_passes old m (app_of old) id t (Unsigned low high) p refl top.1 top.2 own.0 (has_parser id low high _ parts.1) given).1)
    (leb-true low default ends.0) (leb-true default high ends.1)
