-- A step and the words of the line that says it belong to each other alone.
use Rattle.std.proofs.Common.{ℕ, suc, zero, ◌≡◌, ◌≢◌, IsTrue, List, [], ◌∷◌, ◌++◌, map, Option, Some, None, refl, sym, ap, subst, ◌∙◌, append_assoc, append-nil}
use Rattle.std.specs.List.{AllByRecursion}
use Rattle.act1_base.specs.Capped.{at_most}
use Rattle.act1_base.proofs.NumberWords.{low_at_most}
use Rattle.act1_channel.specs.declared.problem.Choice.{Choice}
use Rattle.act1_channel.specs.declared.problem.Hint.{Hint}
use Rattle.act1_channel.specs.declared.problem.Hint.TheVariants as hint
use Rattle.act1_channel.specs.declared.problem.Step.{Step}
use Rattle.act1_table.specs.Forms.{Fits, FitFields}
use Rattle.act1_table.specs.Reads.{and_then}
use Rattle.act1_table.specs.Values.{fixed}
use Rattle.act1_table.specs.declared.forms.Given.{Given}
use Rattle.act1_table.specs.declared.forms.Given.TheVariants as given
use Rattle.act1_table.proofs.NumberLaws.{some_is}
use Rattle.act1_table.proofs.PlainLaws.{words_plain}
use Rattle.act1_logtext.specs.StepLines.{step_words, step_form, choice_given, colon_given, hint_given, step_given, IsChoice, IsHint, IsStep, is_some, has_hint, choice_of, hint_of, hint_said, hints_on, choices_on, step_of}

-- a line can have the words of a step
abbrev pub FitsStep : List Given → Type 0
FitsStep words = FitFields step_form.fields step_form.rest words

abbrev FitWords : List Given → Type 0
FitWords words = FitFields [] step_words words

-- a word that is a choice, `:` or a hint is that of what it says

choice_plain : (ns : List ℕ) → Fits step_words (given.Way 0 ns) → given.Way 0 ns ≡ choice_given (choice_of ns)
choice_plain [] h = absurd h
choice_plain (c ∷ []) h = absurd h.1
choice_plain (c ∷ t ∷ []) h =
    ap (λ (n : ℕ). given.Way 0 (n ∷ t ∷ [])) (sym (low_at_most 65535 c h.0)) ∙ ap (λ (n : ℕ). given.Way 0 (at_most 65535 c ∷ n ∷ [])) (sym (low_at_most 255 t h.1.0))
choice_plain (c ∷ t ∷ n ∷ ns) h = absurd h.1.1

colon_plain : (ns : List ℕ) → Fits step_words (given.Way 1 ns) → given.Way 1 ns ≡ colon_given
colon_plain [] h = refl
colon_plain (n ∷ ns) h = absurd h

connection_plain : (ns : List ℕ) (h : Hint) → Fits step_words (given.Way 2 ns) → hint_of 2 ns ≡ Some h → given.Way 2 ns ≡ hint_given h
connection_plain [] h fit e = absurd fit
connection_plain (c ∷ []) h fit e =
    subst (λ (x : Hint). given.Way 2 (c ∷ []) ≡ hint_given x) (some_is _ h e) (ap (λ (n : ℕ). given.Way 2 (n ∷ [])) (sym (low_at_most 65535 c fit.0)))
connection_plain (c ∷ d ∷ ns) h fit e = absurd fit.1

clash_plain : (ns : List ℕ) (h : Hint) → Fits step_words (given.Way 3 ns) → hint_of 3 ns ≡ Some h → given.Way 3 ns ≡ hint_given h
clash_plain [] h fit e = absurd fit
clash_plain (c ∷ []) h fit e = absurd fit.1
clash_plain (c ∷ d ∷ []) h fit e = absurd fit.1.1
clash_plain (c ∷ d ∷ t ∷ []) h fit e =
    subst (λ (x : Hint). given.Way 3 (c ∷ d ∷ t ∷ []) ≡ hint_given x) (some_is _ h e) (
    ap (λ (n : ℕ). given.Way 3 (n ∷ d ∷ t ∷ [])) (sym (low_at_most 65535 c fit.0))
    ∙ ap (λ (n : ℕ). given.Way 3 (at_most 65535 c ∷ n ∷ t ∷ [])) (sym (low_at_most 65535 d fit.1.0))
    ∙ ap (λ (n : ℕ). given.Way 3 (at_most 65535 c ∷ at_most 65535 d ∷ n ∷ [])) (sym (low_at_most 255 t fit.1.1.0)))
clash_plain (c ∷ d ∷ t ∷ n ∷ ns) h fit e = absurd fit.1.1.1

earlier_plain : (ns : List ℕ) (h : Hint) → Fits step_words (given.Way 4 ns) → hint_of 4 ns ≡ Some h → given.Way 4 ns ≡ hint_given h
earlier_plain [] h fit e = absurd fit
earlier_plain (n ∷ []) h fit e =
    subst (λ (x : Hint). given.Way 4 (n ∷ []) ≡ hint_given x) (some_is _ h e) (ap (λ (m : ℕ). given.Way 4 (m ∷ [])) (sym (low_at_most 4294967295 n fit.0)))
earlier_plain (n ∷ m ∷ ns) h fit e = absurd fit.1

hint_plain : (g : Given) (h : Hint) → Fits step_words g → hint_said g ≡ Some h → g ≡ hint_given h
hint_plain (given.Name name) h fit e = cc
hint_plain (given.Way zero ns) h fit e = cc
hint_plain (given.Way (suc zero) ns) h fit e = cc
hint_plain (given.Way (suc (suc zero)) ns) h fit e = connection_plain ns h fit e
hint_plain (given.Way (suc (suc (suc zero))) ns) h fit e = clash_plain ns h fit e
hint_plain (given.Way (suc (suc (suc (suc zero)))) ns) h fit e = earlier_plain ns h fit e
hint_plain (given.Way (suc (suc (suc (suc (suc k))))) ns) h fit e = absurd fit

-- words that say a step are its words

-- the words of these choices and hints
abbrev said : List Choice → List Hint → List Given
said choices hints = map choice_given choices ++ colon_given ∷ map hint_given hints

map_more : {X Y : Type 0} (f : X → Y) (xs : List X) (x : X) (ys : List Y) → map f (xs ++ x ∷ []) ++ ys ≡ map f xs ++ f x ∷ ys
map_more f [] x ys = refl
map_more {Y = Y} f (z ∷ xs) x ys = ap (λ (zs : List Y). f z ∷ zs) (map_more f xs x ys)

-- the words behind those of these choices and hints are those of the other hints of the step
abbrev AreRest : List Choice → List Hint → List Given → Step → Type 0
AreRest choices hints words s = map choice_given choices ++ colon_given ∷ (map hint_given hints ++ words) ≡ said s.choices s.hints

hints_by : (choices : List Choice) (hints : List Hint) (g : Given) (words : List Given) (s : Step) (found : Option Hint) → ((h : Hint) → found ≡ Some h → g ≡ hint_given h)
    → ((h : Hint) → hints_on choices (hints ++ h ∷ []) words ≡ Some s → AreRest choices (hints ++ h ∷ []) words s)
    → and_then found (λ h. hints_on choices (hints ++ h ∷ []) words) ≡ Some s → AreRest choices hints (g ∷ words) s
hints_by choices hints g words s None plain rest e = cc
hints_by choices hints g words s (Some h) plain rest e =
    ap (λ (x : Given). map choice_given choices ++ colon_given ∷ (map hint_given hints ++ x ∷ words)) (plain h refl)
    ∙ ap (λ (xs : List Given). map choice_given choices ++ colon_given ∷ xs) (sym (map_more hint_given hints h words))
    ∙ rest h e

hints_are : (choices : List Choice) (hints : List Hint) (words : List Given) (s : Step) → FitWords words → hints_on choices hints words ≡ Some s → AreRest choices hints words s
hints_are choices hints [] s fit e =
    ap (λ (xs : List Given). map choice_given choices ++ colon_given ∷ xs) (append-nil (map hint_given hints))
    ∙ ap (λ (t : Step). said t.choices t.hints) (some_is _ s e)
hints_are choices hints (g ∷ words) s fit e =
    hints_by choices hints g words s (hint_said g) (λ h. hint_plain g h fit.0) (λ h. hints_are choices (hints ++ h ∷ []) words s fit.1) e

choices_are : (choices : List Choice) (words : List Given) (s : Step) → FitWords words → choices_on choices words ≡ Some s → map choice_given choices ++ words ≡ said s.choices s.hints
choices_are choices [] s fit e = cc
choices_are choices (given.Name name ∷ words) s fit e = cc
choices_are choices (given.Way zero ns ∷ words) s fit e =
    ap (λ (x : Given). map choice_given choices ++ x ∷ words) (choice_plain ns fit.0)
    ∙ sym (map_more choice_given choices (choice_of ns) words)
    ∙ choices_are (choices ++ choice_of ns ∷ []) words s fit.1 e
choices_are choices (given.Way (suc zero) ns ∷ words) s fit e =
    ap (λ (x : Given). map choice_given choices ++ x ∷ words) (colon_plain ns fit.0) ∙ hints_are choices [] words s fit.1 e
choices_are choices (given.Way (suc (suc zero)) ns ∷ words) s fit e = cc
choices_are choices (given.Way (suc (suc (suc zero))) ns ∷ words) s fit e = cc
choices_are choices (given.Way (suc (suc (suc (suc zero)))) ns ∷ words) s fit e = cc
choices_are choices (given.Way (suc (suc (suc (suc (suc k))))) ns ∷ words) s fit e = absurd fit.0

pub step_only : (words : List Given) (s : Step) → FitsStep words → step_of words ≡ Some s → words ≡ step_given s
step_only [] s fit e = absurd fit
step_only (first ∷ words) s fit e = words_plain step_form (first ∷ words) fit ∙ ap (λ (xs : List Given). fixed ∷ xs) (choices_are [] words s fit.1 e)

-- the words of a step say it

choice_back : (c : Choice) → IsChoice c → choice_of (c.connection ∷ c.track ∷ []) ≡ c
choice_back c h =
    ap (λ (n : ℕ). record { connection = n; track = at_most 255 c.track }) (low_at_most 65535 c.connection h.0)
    ∙ ap (λ (n : ℕ). record { connection = c.connection; track = n }) (low_at_most 255 c.track h.1)

hint_back : (h : Hint) → IsHint h → hint_said (hint_given h) ≡ Some h
hint_back (hint.AtLeast c) fit = ap (λ (n : ℕ). Some (hint.AtLeast n)) (low_at_most 65535 c fit)
hint_back (hint.Clash c d t) fit =
    ap (λ (n : ℕ). Some (hint.Clash n (at_most 65535 d) (at_most 255 t))) (low_at_most 65535 c fit.0)
    ∙ ap (λ (n : ℕ). Some (hint.Clash c n (at_most 255 t))) (low_at_most 65535 d fit.1)
    ∙ ap (λ (n : ℕ). Some (hint.Clash c d n)) (low_at_most 255 t fit.2)
hint_back (hint.Step n) fit = ap (λ (m : ℕ). Some (hint.Step m)) (low_at_most 4294967295 n fit)

abbrev at : List Choice → List Hint → Step
at choices hints = record { choices = choices; hints = hints }

hints_back : (choices : List Choice) (got hints : List Hint) → AllByRecursion IsHint hints → hints_on choices got (map hint_given hints) ≡ Some (at choices (got ++ hints))
hints_back choices got [] fit = ap (λ (hs : List Hint). Some (at choices hs)) (sym (append-nil got))
hints_back choices got (h ∷ hints) fit =
    ap (λ (found : Option Hint). and_then found (λ x. hints_on choices (got ++ x ∷ []) (map hint_given hints))) (hint_back h fit.0)
    ∙ hints_back choices (got ++ h ∷ []) hints fit.1
    ∙ ap (λ (hs : List Hint). Some (at choices hs)) (append_assoc got (h ∷ []) hints)

choices_back : (got choices : List Choice) (hints : List Hint) → AllByRecursion IsChoice choices → AllByRecursion IsHint hints → choices_on got (said choices hints) ≡ Some (at (got ++ choices) hints)
choices_back got [] hints fit fine = hints_back got [] hints fine ∙ ap (λ (cs : List Choice). Some (at cs hints)) (sym (append-nil got))
choices_back got (c ∷ choices) hints fit fine =
    ap (λ (x : Choice). choices_on (got ++ x ∷ []) (said choices hints)) (choice_back c fit.0)
    ∙ choices_back (got ++ c ∷ []) choices hints fit.1 fine
    ∙ ap (λ (cs : List Choice). Some (at cs hints)) (append_assoc got (c ∷ []) choices)

-- what a line has whose words are those of a step

hints_fit : (hints : List Hint) → FitWords (map hint_given hints) → AllByRecursion IsHint hints
hints_fit [] fit = tt
hints_fit (hint.AtLeast c ∷ hints) fit = (fit.0.0, hints_fit hints fit.1)
hints_fit (hint.Clash c d t ∷ hints) fit = ((fit.0.0, fit.0.1.0, fit.0.1.1.0), hints_fit hints fit.1)
hints_fit (hint.Step n ∷ hints) fit = (fit.0.0, hints_fit hints fit.1)

words_fit : (choices : List Choice) (hints : List Hint) → FitWords (said choices hints) → AllByRecursion IsChoice choices × AllByRecursion IsHint hints
words_fit [] hints fit = (tt, hints_fit hints fit.1)
words_fit (c ∷ choices) hints fit = let rest = words_fit choices hints fit.1 in (((fit.0.0, fit.0.1.0), rest.0), rest.1)

pub step_back : (s : Step) → FitsStep (step_given s) → step_of (step_given s) ≡ Some s
step_back s fit = let fine = words_fit s.choices s.hints fit.1 in choices_back [] s.choices s.hints fine.0 fine.1

-- and a line can have the words of a step

fit_hints : (hints : List Hint) → AllByRecursion IsHint hints → FitWords (map hint_given hints)
fit_hints [] fine = tt
fit_hints (hint.AtLeast c ∷ hints) fine = ((fine.0, tt), fit_hints hints fine.1)
fit_hints (hint.Clash c d t ∷ hints) fine = ((fine.0.0, (fine.0.1, (fine.0.2, tt))), fit_hints hints fine.1)
fit_hints (hint.Step n ∷ hints) fine = ((fine.0, tt), fit_hints hints fine.1)

fit_words : (choices : List Choice) (hints : List Hint) → AllByRecursion IsChoice choices → AllByRecursion IsHint hints → FitWords (said choices hints)
fit_words [] hints fit fine = (tt, fit_hints hints fine)
fit_words (c ∷ choices) hints fit fine = ((fit.0.0, (fit.0.1, tt)), fit_words choices hints fit.1 fine)

pub step_fits : (s : Step) → IsStep s → FitsStep (step_given s)
step_fits s is = (tt, fit_words s.choices s.hints is.choices is.hints)

-- the test of hints

no_hints : (hints : List Hint) → IsTrue (is_some hints) → hints ≢ []
no_hints [] h e = cc
no_hints (x ∷ hints) h e = cc

some_hints : (hints : List Hint) → hints ≢ [] → IsTrue (is_some hints)
some_hints [] h = absurd (h refl)
some_hints (x ∷ hints) h = refl

pub step_is : (s : Step) → FitsStep (step_given s) → IsTrue (has_hint s) → IsStep s
step_is s fit some = let fine = words_fit s.choices s.hints fit.1 in record { choices = fine.0; hints = fine.1; some = no_hints s.hints some }

pub has_hint_by : (s : Step) → IsStep s → IsTrue (has_hint s)
has_hint_by s is = some_hints s.hints is.some
