-- A command takes the words at which it has no fault.
use Rattle.std.proofs.Common.{◌≡◌, ℕ, zero, suc, ◌+◌, nat_le, Bool, true, false, not, ◌&&◌, ◌||◌, cond, List, [], ◌∷◌, length, min, drop, Option, Some, None, is_some, refl, arith}
use Rattle.std.specs.Prelude.{encode_utf8, find, slice_get, codes}
use Rattle.std.specs.List.{list_all, list_any}
use Rattle.std.specs.Option.{option_map_or}
use Rattle.std.specs.Str.{bytes_eq, chars}
use Rattle.std.proofs.lemmas.Bool.Decides.{nat_tests}
use Rattle.clap.specs.Lexer.{long_of, short_of}
use Rattle.clap.specs.Matches.{count_text}
use Rattle.clap.specs.Facts.{explicit_source, parser_of_value, unwrap_or_range}
use Rattle.clap.specs.Values.{refused_kind}
use Rattle.clap.specs.ValueTests.{accepts}
use Rattle.clap.specs.Kinds.{Kinds, check_kinds, or_else, range_kinds, value_kinds, values_kinds}
use Rattle.clap.specs.Walk.{Held, Names, Row, Rule, Step, Text, Walk, action_of, answers_to, arg_by_id, arg_by_index, arg_by_long, arg_by_short, attached_value, count_of, finished, has_row, is_pending, most_values, next, nothing_held, reacted, settled, subcommand, subcommand_met, takes_several, takes_values, trailing, value, values_or_missing, walk, walk_from, walked, word_met}
use Rattle.clap.specs.Simple.{App, Shape, argument_words, built, entered, is_simple, label_of, names_of}
use Rattle.clap.specs.Takes.{action_passes, bundle_passes, bundle_step_passes, count_passes, default_passes, entered_passes, flag_word_passes, flags_pass, is_given, is_valid, level_passes, long_passes, option_passes, other_passes, positional_passes, react_passes, set_passes, settle_passes, short_passes, step_passes, takes, turn_passes, use_passes, values_pass, walk_passes}
use Rattle.clap.specs.Faults.{action_fault, bundle_fault, bundle_step_fault, check_fault, count_fault, entered_fault, fault_of, flag_word_fault, flags_fault, level_fault, long_fault, option_fault, other_fault, positional_fault, react_fault, repeat_fault, set_fault, settle_fault, short_fault, step_fault, stray_fault, turn_fault, use_fault, values_fault, walk_fault}
use Rattle.clap.proofs.WalkLemmas.{both}
use Rattle.clap.specs.declared.builder.action.ArgAction.{ArgAction}
use Rattle.clap.specs.declared.builder.action.ArgAction.TheVariants.{Append, Count, Help, HelpLong, HelpShort, Set, SetFalse, SetTrue, Version}
use Rattle.clap.specs.declared.builder.value_parser.ValueParser.{ValueParser}
use Rattle.clap.specs.declared.error.kind.ErrorKind.{ErrorKind}

-- ---- tests and kinds

and_true : (a b : Bool) → a ≡ true → b ≡ true → (a && b) ≡ true
and_true true b p q = q
and_true false b p q = absurd (cc)

neither : (a b : Kinds) → or_else a b ≡ [] → (a ≡ []) × (b ≡ [])
neither [] b e = (refl, e)
neither (k ∷ ks) b e = absurd (cc)

-- both tests of an `or_else`
both_fit : (a b : Kinds) (p q : Bool) → (a ≡ [] → p ≡ true) → (b ≡ [] → q ≡ true) → or_else a b ≡ [] → (p && q) ≡ true
both_fit a b p q first second e = and_true p q (first (neither a b e).0) (second (neither a b e).1)

or_fits : (b : Bool) (f : Kinds) (p : Bool) → (f ≡ [] → p ≡ true) → cond b [] f ≡ [] → (b || p) ≡ true
or_fits true f p fits e = refl
or_fits false f p fits e = fits e

if_fits : (b : Bool) (f g : Kinds) (p q : Bool) → (f ≡ [] → p ≡ true) → (g ≡ [] → q ≡ true) → cond b f g ≡ [] → cond b p q ≡ true
if_fits true f g p q one other e = one e
if_fits false f g p q one other e = other e

tested : (b : Bool) (k : ErrorKind) → cond b [] (k ∷ []) ≡ [] → b ≡ true
tested true k e = refl
tested false k e = absurd (cc)

not_both : (b again : Bool) (k : ErrorKind) (ks : Kinds) → cond (b && not again) (k ∷ ks) [] ≡ [] → (not b || again) ≡ true
not_both true true k ks e = refl
not_both true false k ks e = absurd (cc)
not_both false again k ks e = refl

-- ---- one use of an argument

values_fit : (i : Bool) (p : ValueParser) (vs : List Text) → values_kinds i p vs ≡ [] → list_all (accepts i p) vs ≡ true
values_fit i p [] e = refl
values_fit i p (v ∷ vs) e = both_fit (value_kinds i p v) (values_kinds i p vs) _ _ (tested (accepts i p v) (refused_kind p)) (values_fit i p vs) e

values_pass_fit : (a : Rule) (vs : List Text) → values_fault a vs ≡ [] → values_pass a vs ≡ true
values_pass_fit a vs e = values_fit a.ignore_case (parser_of_value a.parser) vs e

count_fits : (a : Rule) (vs : List Text) (rows : List Row) → count_fault a vs rows ≡ [] → count_passes a vs rows ≡ true
count_fits a [] rows e = tested (accepts a.ignore_case (parser_of_value a.parser) (count_text (min (count_of a.id rows + 1) 255))) (refused_kind (parser_of_value a.parser)) e
count_fits a (v ∷ vs) rows e = values_pass_fit a (v ∷ vs) e

set_fits : (again : Bool) (a : Rule) (vs : List Text) (rows : List Row) → set_fault again a vs rows ≡ [] → set_passes again a vs rows ≡ true
set_fits again a vs rows e = both_fit (repeat_fault again a.id rows) (values_fault a vs) _ _ (not_both (has_row a.id rows) again _ []) (values_pass_fit a vs) e

action_fits : (x : ArgAction) (again : Bool) (a : Rule) (vs : List Text) (rows : List Row) → action_fault x again a vs rows ≡ [] → action_passes x again a vs rows ≡ true
action_fits Set again a vs rows e = set_fits again a vs rows e
action_fits SetTrue again a vs rows e = set_fits again a vs rows e
action_fits SetFalse again a vs rows e = set_fits again a vs rows e
action_fits Append again a vs rows e = values_pass_fit a vs e
action_fits Count again a vs rows e = count_fits a vs rows e
action_fits Help again a vs rows e = absurd (cc)
action_fits HelpShort again a vs rows e = absurd (cc)
action_fits HelpLong again a vs rows e = absurd (cc)
action_fits Version again a vs rows e = absurd (cc)

range_fits : (least most n : ℕ) → range_kinds least most n ≡ [] → (nat_le least n ≡ true) × (nat_le n most ≡ true)
range_fits least most n e = (grind (arith, nat_tests), grind (arith, nat_tests))

use_fits : (again : Bool) (a : Rule) (vs : List Text) (rows : List Row) → use_fault again a vs rows ≡ [] → use_passes again a vs rows ≡ true
use_fits again a vs rows e =
    let least = (unwrap_or_range a.range).start_inclusive in
    let parts = neither (range_kinds least (most_values a) (length vs)) (action_fault (action_of a) again a (values_or_missing a vs) rows) e in
    let range = range_fits least (most_values a) (length vs) parts.0 in
    and_true _ _ range.0 (and_true _ _ range.1 (action_fits (action_of a) again a (values_or_missing a vs) rows parts.1))

-- ---- the walk

found_fits : (again : Bool) (vs : List Text) (rows : List Row) (found : Option Rule) → option_map_or (λ a. use_fault again a vs rows) found [] ≡ [] → option_map_or (λ a. use_passes again a vs rows) found true ≡ true
found_fits again vs rows None e = refl
found_fits again vs rows (Some a) e = use_fits again a vs rows e

pending_fits : (c : List Rule) (again : Bool) (rows : List Row) (pending : Option (Text × List Text))
    → option_map_or (λ p. option_map_or (λ a. use_fault again a p.1 rows) (arg_by_id c p.0) []) pending [] ≡ []
    → option_map_or (λ p. option_map_or (λ a. use_passes again a p.1 rows) (arg_by_id c p.0) true) pending true ≡ true
pending_fits c again rows None e = refl
pending_fits c again rows (Some p) e = found_fits again p.1 rows (arg_by_id c p.0) e

settle_fits : (c : List Rule) (again : Bool) (h : Held) → settle_fault c again h ≡ [] → settle_passes c again h ≡ true
settle_fits c again h e = pending_fits c again h.rows h.pending e

react_fits : (c : List Rule) (again : Bool) (a : Rule) (vs : List Text) (h : Held) → react_fault c again a vs h ≡ [] → react_passes c again a vs h ≡ true
react_fits c again a vs h e = both_fit (settle_fault c again h) (use_fault again a vs (settled c h).rows) _ _ (settle_fits c again h) (use_fits again a vs (settled c h).rows) e

option_fits : (c : List Rule) (again : Bool) (a : Rule) (v : Option Text) (h : Held) → option_fault c again a v h ≡ [] → option_passes c again a v h ≡ true
option_fits c again a (Some v) h e = react_fits c again a (v ∷ []) h e
option_fits c again a None h e = settle_fits c again h e

flag_fits : (some : Bool) (k : ErrorKind) (f : Kinds) (p : Bool) → (f ≡ [] → p ≡ true) → cond some (k ∷ []) f ≡ [] → (not some && p) ≡ true
flag_fits true k f p fits e = absurd (cc)
flag_fits false k f p fits e = fits e

long_fits : (c : List Rule) (again : Bool) (found : Option Rule) (v : Option Text) (h : Held) → long_fault c again found v h ≡ [] → long_passes c again found v h ≡ true
long_fits c again None v h e = absurd (cc)
long_fits c again (Some a) v h e =
    if_fits (takes_values a) (option_fault c again a v h) _ _ _ (option_fits c again a v h) (flag_fits (is_some v) _ (react_fault c again a [] h) _ (react_fits c again a [] h)) e

short_fits : (c : List Rule) (again : Bool) (found : Option Rule) (rest : Text) (h : Held) (f : Held → Kinds) (p : Held → Bool)
    → ((k : Held) → f k ≡ [] → p k ≡ true) → short_fault c again found rest h f ≡ [] → short_passes c again found rest h p ≡ true
short_fits c again None rest h f p fits e = absurd (cc)
short_fits c again (Some a) rest h f p fits e =
    if_fits (takes_values a) (option_fault c again a (attached_value rest) h) _ _ _ (option_fits c again a (attached_value rest) h)
    (both_fit (react_fault c again a [] h) (f (reacted c a [] h)) _ _ (react_fits c again a [] h) (fits (reacted c a [] h))) e

bundle_step_fits : (c : List Rule) (again : Bool) (first : Option ℕ) (flags : Text) (skip : ℕ) (h : Held) (f : Text → ℕ → Held → Kinds) (p : Text → ℕ → Held → Bool)
    → ((t : Text) (n : ℕ) (k : Held) → f t n k ≡ [] → p t n k ≡ true)
    → bundle_step_fault c again first flags skip h f ≡ [] → bundle_step_passes c again first flags skip h p ≡ true
bundle_step_fits c again None flags skip h f p fits e = refl
bundle_step_fits c again (Some x) flags zero h f p fits e =
    let rest = drop (length (encode_utf8 x)) flags in
    short_fits c again (arg_by_short c x) rest h (f rest 0) (p rest 0) (fits rest 0) e
bundle_step_fits c again (Some x) flags (suc skip) h f p fits e = fits (drop (length (encode_utf8 x)) flags) skip h e

flags_fit : (c : List Rule) (again : Bool) (n : ℕ) (flags : Text) (skip : ℕ) (h : Held) → flags_fault c again n flags skip h ≡ [] → flags_pass c again n flags skip h ≡ true
unfolding flags_fault flags_pass
flags_fit c again zero flags skip h e = refl
flags_fit c again (suc n) flags skip h e =
    bundle_step_fits c again (slice_get (chars flags) 0) flags skip h (flags_fault c again n) (flags_pass c again n) (λ t m k. flags_fit c again n t m k) e

bundle_fits : (c : List Rule) (again : Bool) (h : Held) (flags : Option Text) → option_map_or (λ f. bundle_fault c again f h) flags [] ≡ [] → option_map_or (λ f. bundle_passes c again f h) flags true ≡ true
bundle_fits c again h None e = refl
bundle_fits c again h (Some flags) e = flags_fit c again (length flags) flags h.skip (record h { skip = 0 }) e

flag_word_fits : (c : List Rule) (again : Bool) (o : Option (Text × Option Text)) (word : Text) (h : Held) → flag_word_fault c again o word h ≡ [] → flag_word_passes c again o word h ≡ true
flag_word_fits c again (Some p) word h e = long_fits c again (arg_by_long c p.0) p.1 h e
flag_word_fits c again None word h e = bundle_fits c again h (short_of word) e

other_fits : (s : Shape) (name : Option Text) (word : Text) (h : Held) → other_fault s name word h ≡ [] → other_passes s name word h ≡ true
other_fits s (Some name) word h e = not_both (bytes_eq name (codes "help")) s.disable_help_subcommand _ _ e
other_fits s None word h e = or_fits (bytes_eq word (45 ∷ 45 ∷ [])) _ _ (flag_word_fits s.rules s.args_override_self (long_of word) word h) e

positional_fits : (s : Shape) (h : Held) (found : Option Rule)
    → option_map_or (λ a. positional_fault s.rules s.args_override_self a h) found (stray_fault s) ≡ []
    → option_map_or (λ a. positional_passes s.rules s.args_override_self a h) found false ≡ true
positional_fits s h (Some a) e = or_fits (is_pending a h.pending && takes_several a) _ _ (settle_fits s.rules s.args_override_self h) e
positional_fits s h None e = astray s.is_leaf _ _ _ e
  where
    astray : (leaf : Bool) (j k : ErrorKind) (ks : Kinds) → cond leaf (j ∷ []) (k ∷ ks) ≡ [] → false ≡ true
    astray true j k ks e = absurd (cc)
    astray false j k ks e = absurd (cc)

step_fits : (s : Shape) (position : ℕ) (h : Held) (step : Step) → step_fault s position h step ≡ [] → step_passes s position h step ≡ true
step_fits s position h (next waiting) e = refl
step_fits s position h (trailing place) e = refl
step_fits s position h (subcommand name) e = refl
step_fits s position h value e = positional_fits s h (arg_by_index s.rules position) e

turn_fits : (s : Shape) (names : Names) (w : Walk) (word : Text) → turn_fault s names w word ≡ [] → turn_passes s names w word ≡ true
turn_fits s names w word e =
    let met = word_met s.rules names w.is_trailing w.waiting w.position word w.held in
    or_fits (is_some w.stopped) _ _
    (both_fit _ (step_fault s w.position met.0 met.1) _ _
    (or_fits w.is_trailing _ _ (other_fits s (subcommand_met names w.waiting word) word w.held)) (step_fits s w.position met.0 met.1)) e

walk_fits : (s : Shape) (names : Names) (w : Walk) (words : List Text) → walk_fault s names w words ≡ [] → walk_passes s names w words ≡ true
unfolding walk_fault walk_passes
walk_fits s names w [] e = refl
walk_fits s names w (word ∷ rest) e =
    both_fit (turn_fault s names w word) (walk_fault s names (walked s.rules names w word) rest) _ _ (turn_fits s names w word) (walk_fits s names (walked s.rules names w word) rest) e

-- ---- after the walk

none_checked : (a b c : Bool) → check_kinds a b c ≡ [] → (a ≡ false) × (b ≡ false) × (c ≡ false)
none_checked true b c e = absurd (cc)
none_checked false true c e = absurd (cc)
none_checked false false true e = absurd (cc)
none_checked false false false e = (refl, refl, refl)

helps : (has wants any : Bool) → (not has && (wants && not any)) ≡ false → (not wants || (has || any)) ≡ true
helps true true any e = refl
helps true false any e = refl
helps false true true e = refl
helps false true false e = absurd (cc)
helps false false any e = refl

wanted : (has wants : Bool) → (not has && wants) ≡ false → (not wants || has) ≡ true
wanted true true e = refl
wanted true false e = refl
wanted false true e = absurd (cc)
wanted false false e = refl

required : (negated some all : Bool) → (some ≡ false → all ≡ true) → (not negated && some) ≡ false → (negated || all) ≡ true
required true some all fits e = refl
required false some all fits e = fits e

given_all : (rows : List Row) (rules : List Rule) → list_any (λ a. a.required && not (is_given a.id rows)) rules ≡ false → list_all (λ a. not a.required || is_given a.id rows) rules ≡ true
given_all rows [] e = refl
given_all rows (a ∷ rules) e = one a.required (is_given a.id rows) (list_any (λ a. a.required && not (is_given a.id rows)) rules) _ (given_all rows rules) e
  where
    one : (needed given some all : Bool) → (some ≡ false → all ≡ true) → ((needed && not given) || some) ≡ false → ((not needed || given) && all) ≡ true
    one true true some all fits e = fits e
    one true false some all fits e = absurd (cc)
    one false given some all fits e = fits e

valid : (s : Shape) (rows : List Row) (has : Bool) → list_all (λ a. a.is_free) s.rules ≡ true → check_fault s rows has ≡ [] → is_valid s rows has ≡ true
valid s rows has free e =
    let given = list_any (λ r. explicit_source r.source) rows in
    let missing = list_any (λ a. a.required && not (is_given a.id rows)) s.rules in
    let (a, b, c) = none_checked (not has && (s.arg_required_else_help && not given)) (not has && s.subcommand_required) (not (s.subcommand_negates_reqs && has) && missing) e in
    and_true _ _ (helps has s.arg_required_else_help given a)
    (and_true _ _ (wanted has s.subcommand_required b)
    (and_true _ _ free (required (s.subcommand_negates_reqs && has) missing _ (given_all rows s.rules) c)))

-- the default values of each argument pass, and none has a rule on another
abbrev pub is_sound : Shape → Bool
is_sound s = list_all default_passes s.rules && list_all (λ a. a.is_free) s.rules

level_fits : (s : Shape) (names : Names) (h : Held) (words : List Text) (has : Bool) (below : Kinds) → is_sound s ≡ true → level_fault s names h words has below ≡ [] → (below ≡ []) × (level_passes s names h words has ≡ true)
level_fits s names h words has below sound e =
    let end = (walk s.rules names h words).held in
    let first = neither (walk_fault s names (walk_from h) words) _ e in
    let second = neither below _ first.1 in
    let third = neither (settle_fault s.rules s.args_override_self end) _ second.1 in
    let fourth = neither _ (check_fault s (finished s.rules end) has) third.1 in
    let (defaults, free) = both (list_all default_passes s.rules) _ sound in (
      second.0,
      and_true _ _ (walk_fits s names (walk_from h) words first.0)
          (and_true _ _ (settle_fits s.rules s.args_override_self end third.0) (and_true _ _ defaults (valid s (finished s.rules end) has free fourth.1))),
    )

either_sound : (b : Bool) (s : Shape) (found : Option Shape) → is_sound s ≡ true → option_map_or is_sound found true ≡ true → option_map_or is_sound (cond b (Some s) found) true ≡ true
either_sound true s found here there = here
either_sound false s found here there = there

found_sound : (p : Shape → Bool) (subs : List Shape) → list_all is_sound subs ≡ true → option_map_or is_sound (find p subs) true ≡ true
found_sound p [] all = refl
found_sound p (s ∷ subs) all =
    let parts = both (is_sound s) (list_all is_sound subs) all in
    either_sound (p s) s (find p subs) parts.0 (found_sound p subs parts.1)

sub_fits : (found : Option Shape) (words : List Text) → option_map_or is_sound found true ≡ true
    → option_map_or (λ s. level_fault s [] nothing_held words false []) found [] ≡ [] → option_map_or (λ s. level_passes s [] nothing_held words false) found true ≡ true
sub_fits None words sound e = refl
sub_fits (Some s) words sound e = (level_fits s [] nothing_held words false [] sound e).1

entered_fits : (a : App) (stop : Option (Text × List Text)) → list_all is_sound a.subs ≡ true → entered_fault a stop ≡ [] → entered_passes a stop ≡ true
entered_fits a None sound e = refl
entered_fits a (Some p) sound e = sub_fits (find (λ s. answers_to p.0 (label_of s)) a.subs) p.1 (found_sound (λ s. answers_to p.0 (label_of s)) a.subs sound) e

-- a simple command takes the words at which it has no fault
pub taken : (a : App) (words : List Text) → is_simple a ≡ true → is_sound (built a).top ≡ true → list_all is_sound (built a).subs ≡ true → fault_of a words ≡ [] → takes a words ≡ true
taken a words simple top subs e =
    let b = built a in
    let args = argument_words a words in
    let stop = (walk b.top.rules (names_of b) nothing_held args).stopped in
    let level = level_fits b.top (names_of b) nothing_held args (is_some (entered b stop)) (entered_fault b stop) top e in
    and_true _ _ simple (and_true _ _ (entered_fits b stop subs level.0) level.1)
