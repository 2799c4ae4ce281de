-- What a command holds after words that it takes, where each of its arguments sets one value: every row has one value, which fits its argument.
use Rattle.std.proofs.Common.{◌≡◌, ℕ, zero, suc, ◌≤◌, nat_le, Bool, true, false, not, ◌&&◌, ◌||◌, cond, List, [], ◌∷◌, ◌++◌, length, drop, append-nil, Option, Some, None, is_some, IfSome, refl, sym, ap, subst, ◌∙◌, arith, true≢false}
use Rattle.std.specs.Prelude.{encode_utf8, find, fold, option_and_then, option_map, slice_get}
use Rattle.std.specs.List.{list_all, list_any}
use Rattle.std.specs.Option.{option_map_or}
use Rattle.std.specs.Str.{bytes_eq, chars}
use Rattle.std.proofs.lemmas.Bool.Decides.{nat_tests}
use Rattle.std.proofs.lemmas.Option.{same_Some}
use Rattle.std.proofs.lemmas.Slice.Eq.{bytes_eq-Decides}
use Rattle.clap.specs.Lexer.{long_of, short_of}
use Rattle.clap.specs.Facts.{explicit_source, unwrap_or_range}
use Rattle.clap.specs.Values.{read_as}
use Rattle.clap.specs.Walk.{Held, Outcome, Row, Rule, Step, Text, Waiting, Walk, action_of, after_flag, after_step, arg_by_id, arg_by_index, arg_by_long, arg_by_short, at_row, attached_value, bundle, bundle_met, bundle_step, default_rows, done, flag_met, has_long, has_row, has_short, idle, is_empty, is_pending, long_met, long_or_other, more_values, most_values, next, nothing_held, one_of, option, option_met, option_word, plain, plain_word, positional, reacted, reading_by, refused, row_text, rows_after, settled, settled_rows, short_met, short_or_plain, subcommand, subcommand_met, subcommand_or_other, takes_several, takes_values, to_positional, trailing, used, used_as, used_by_id, value, waits, walk, walk_from, walked, walked_from, with_default, with_values, without, word_met}
use Rattle.clap.specs.Simple.{Shape, new_shape}
use Rattle.clap.specs.Takes.{action_passes, bundle_passes, bundle_step_passes, default_passes, flag_word_passes, flags_pass, is_given, is_valid, level_passes, long_passes, option_passes, other_passes, positional_passes, react_passes, settle_passes, short_passes, step_passes, turn_passes, use_passes, value_passes, walk_passes, word_passes}
use Rattle.clap.specs.declared.builder.action.ArgAction.TheVariants.{Set}
use Rattle.clap.specs.declared.parser.matches.ValueSource.{ValueSource}
use Rattle.clap.specs.declared.parser.matches.ValueSource.TheVariants.{CommandLine, DefaultValue}
use Rattle.clap.proofs.WalkLemmas.{both}
use Rattle.pf_entry.proofs.Cases.{by_test}
use Rattle.pf_entry.specs.Lists.{Every}

every_more : {X : Type 0} (P : X → Type 0) (xs : List X) (x : X) → Every P xs → P x → Every P (xs ++ x ∷ [])
every_more P [] x all last = (last, tt)
every_more P (y ∷ ys) x all last = (all.0, every_more P ys x all.1 last)

-- what was found is of the list
pub found_of : {X : Type 0} (P : X → Type 0) (p : X → Bool) (xs : List X) → Every P xs → IfSome (find p xs) (λ x. P x × (p x ≡ true))
found_of P p [] all = tt
found_of P p (x ∷ xs) all =
    by_test (p x) (λ b. IfSome (cond b (Some x) (find p xs)) (λ y. P y × (p y ≡ true))) (λ is. (all.0, is)) (λ _. found_of P p xs all.1)

pub first_part : {X : Type 0} (P Q : X → Type 0) (o : Option X) → IfSome o (λ x. P x × Q x) → IfSome o P
first_part P Q None all = tt
first_part P Q (Some x) all = all.0

find_some : {X : Type 0} (p : X → Bool) (xs : List X) → list_any p xs ≡ true → is_some (find p xs) ≡ true
find_some p [] any = any
find_some p (x ∷ xs) any = go (p x) (find_some p xs) any
  where
    go : (b : Bool) → (list_any p xs ≡ true → is_some (find p xs) ≡ true) → (b || list_any p xs) ≡ true → is_some (cond b (Some x) (find p xs)) ≡ true
    go true later any = refl
    go false later any = later any

find_last : {X : Type 0} (p : X → Bool) (xs : List X) (x : X) → p x ≡ true → is_some (find p (xs ++ x ∷ [])) ≡ true
find_last p [] x is = ap (λ b. is_some (cond b (Some x) None)) is
find_last p (y ∷ ys) x is = by_test (p y) (λ b. is_some (cond b (Some y) (find p (ys ++ x ∷ []))) ≡ true) (λ _. refl) (λ _. find_last p ys x is)

-- ---- arguments and rows

-- the argument is the one of its id, and a use of it sets one value
pub record IsSet (rules : List Rule) (a : Rule) : Type 0 where
  pub found : arg_by_id rules a.id ≡ Some a
  pub action : action_of a ≡ Set
  pub least : (unwrap_or_range a.range).start_inclusive ≡ 1
  pub most : most_values a ≡ 1
  pub defaults : length a.defaults ≤ 1

-- the row has one value, which fits its argument
pub record HasFit (rules : List Rule) (r : Row) : Type 0 where
  pub text : Text
  pub values : r.values ≡ text ∷ []
  pub fits : (a : Rule) → arg_by_id rules r.id ≡ Some a → (r.reading ≡ reading_by a) × (value_passes a text ≡ true)

-- the row of an argument has such a value
pub record HasOne (rows : List Row) (a : Rule) : Type 0 where
  pub text : Text
  pub good : value_passes a text ≡ true
  pub one : one_of a.id rows ≡ Some (read_as (reading_by a) text)

-- the row of a value
abbrev new_row : Rule → ValueSource → Text → Row
new_row a source text = record { id = a.id; values = text ∷ []; count = None; source = Some source; reading = reading_by a }

absent : (id : Text) (change : Row → List Row) (missing rows : List Row) → has_row id rows ≡ false → at_row id change missing rows ≡ rows ++ missing
absent id change missing [] none = refl
absent id change missing (r ∷ rows) none = go (bytes_eq r.id id) (absent id change missing rows) none
  where
    go : (b : Bool) → (has_row id rows ≡ false → at_row id change missing rows ≡ rows ++ missing) → (b || has_row id rows) ≡ false → cond b (change r ++ rows) (r ∷ at_row id change missing rows) ≡ r ∷ (rows ++ missing)
    go true later e = absurd (true≢false e)
    go false later e = ap (λ (rs : List Row). r ∷ rs) (later e)

not_held : (b : Bool) → (not b || false) ≡ true → b ≡ false
not_held false e = refl
not_held true e = sym e

module _ (rules : List Rule) where
  abbrev pub AreFit : List Row → Type 0
  AreFit rows = Every (HasFit rules) rows

  -- a value more
  row_fits : (a : Rule) (source : ValueSource) (text : Text) → IsSet rules a → value_passes a text ≡ true → HasFit rules (new_row a source text)
  row_fits a source text set good = record {
    text = text;
    values = refl;
    fits = λ b is. let same : a ≡ b = same_Some a b (sym set.found ∙ is) in (ap reading_by same, subst (λ c. value_passes c text ≡ true) same good);
  }

  put_fit : (a : Rule) (source : ValueSource) (text : Text) (rows : List Row) → IsSet rules a → value_passes a text ≡ true → has_row a.id rows ≡ false → AreFit rows → AreFit (with_values a.id (reading_by a) source (text ∷ []) rows)
  put_fit a source text rows set good none all =
      subst AreFit (sym (absent a.id (more_values source (text ∷ [])) (new_row a source text ∷ []) rows none)) (every_more (HasFit rules) rows (new_row a source text) all (row_fits a source text set good))

  -- ---- a use

  set_fit : (a : Rule) (text : Text) (rows : List Row) → IsSet rules a → AreFit rows → action_passes Set false a (text ∷ []) rows ≡ true → AreFit (used_as Set a.id (reading_by a) (text ∷ []) rows)
  set_fit a text rows set all e =
      let parts = both (not (has_row a.id rows) || false) _ e in
      let none = not_held (has_row a.id rows) parts.0 in
      let same : without a.id rows ≡ rows = absent a.id (λ _. []) [] rows none ∙ append-nil rows in
      subst (λ rs. AreFit (with_values a.id (reading_by a) CommandLine (text ∷ []) rs)) (sym same) (put_fit a CommandLine text rows set (both (value_passes a text) true parts.1).0 none all)

  used_fit : (a : Rule) (texts : List Text) (rows : List Row) → IsSet rules a → AreFit rows → use_passes false a texts rows ≡ true → AreFit (used a texts rows)
  used_fit a [] rows set all e =
      let none = (both (nat_le (unwrap_or_range a.range).start_inclusive 0) _ e).0 in
      let least = set.least in
      absurd (grind (arith, nat_tests))
  used_fit a (text ∷ []) rows set all e =
      let acts = (both (nat_le 1 (most_values a)) _ (both (nat_le (unwrap_or_range a.range).start_inclusive 1) _ e).1).1 in
      subst (λ x. AreFit (used_as x a.id (reading_by a) (text ∷ []) rows)) (sym set.action) (set_fit a text rows set all (subst (λ x. action_passes x false a (text ∷ []) rows ≡ true) set.action acts))
  used_fit a (text ∷ more ∷ texts) rows set all e =
      let few = (both (nat_le (length (text ∷ more ∷ texts)) (most_values a)) _ (both (nat_le (unwrap_or_range a.range).start_inclusive (length (text ∷ more ∷ texts))) _ e).1).0 in
      let most = set.most in
      absurd (grind (arith, nat_tests))

  by_id_fit : (found : Option Rule) (texts : List Text) (rows : List Row) → IfSome found (IsSet rules) → AreFit rows
      → option_map_or (λ a. use_passes false a texts rows) found true ≡ true → AreFit (used_by_id found texts rows)
  by_id_fit None texts rows set all e = all
  by_id_fit (Some a) texts rows set all e = used_fit a texts rows set all e

  -- ---- defaults

  given_fit : (a : Rule) (texts : List Text) (q : Bool) (rows : List Row) → IsSet rules a → AreFit rows → length texts ≤ 1 → (is_empty texts || (q && list_all (value_passes a) texts)) ≡ true → has_row a.id rows ≡ false
      → AreFit (default_rows a.id (reading_by a) texts rows)
  given_fit a [] q rows set all few e none = all
  given_fit a (text ∷ []) q rows set all few e none = put_fit a DefaultValue text rows set (both (value_passes a text) true (both q _ e).1).0 none all
  given_fit a (text ∷ more ∷ texts) q rows set all few e none = absurd (omega (arith, few))

  default_fit : (a : Rule) (rows : List Row) → IsSet rules a → default_passes a ≡ true → AreFit rows → AreFit (with_default rows a)
  default_fit a rows set e all =
      by_test (has_row a.id rows) (λ b. AreFit (cond b rows (default_rows a.id (reading_by a) a.defaults rows))) (λ _. all) (given_fit a a.defaults _ rows set all set.defaults e)

  defaults_fit : (given : List Rule) (rows : List Row) → Every (IsSet rules) given → list_all default_passes given ≡ true → AreFit rows → AreFit (fold with_default rows given)
  defaults_fit [] rows set e all = all
  defaults_fit (a ∷ given) rows set e all =
      let parts = both (default_passes a) (list_all default_passes given) e in
      defaults_fit given (with_default rows a) set.1 parts.1 (default_fit a rows set.0 parts.0 all)

  -- ---- what is read of a row

  pub one_fits : (a : Rule) (rows : List Row) → IsSet rules a → AreFit rows → is_some (find (λ r. bytes_eq r.id a.id) rows) ≡ true → HasOne rows a
  one_fits a rows set all some = go (find (λ r. bytes_eq r.id a.id) rows) refl some (found_of (HasFit rules) (λ r. bytes_eq r.id a.id) rows all)
    where
      go : (o : Option Row) → find (λ r. bytes_eq r.id a.id) rows ≡ o → is_some o ≡ true → IfSome o (λ r. HasFit rules r × (bytes_eq r.id a.id ≡ true)) → HasOne rows a
      go None is some fit = absurd (true≢false (sym some))
      go (Some r) is some fit =
          let fits = fit.0.fits a (ap (arg_by_id rules) ((bytes_eq-Decides r.id a.id).0 fit.1) ∙ set.found) in
          record {
            text = fit.0.text;
            good = fits.1;
            one = ap (option_and_then row_text) is ∙ ap (λ vs. option_map (read_as r.reading) (slice_get vs 0)) fit.0.values ∙ ap (λ how. Some (read_as how fit.0.text)) fits.0;
          }

-- an argument that has a default value has a row
pub defaulted : (a : Rule) (text : Text) (rows : List Row) → a.defaults ≡ text ∷ [] → is_some (find (λ r. bytes_eq r.id a.id) (with_default rows a)) ≡ true
defaulted a text rows is =
    by_test (has_row a.id rows) (λ b. is_some (find (λ r. bytes_eq r.id a.id) (cond b rows (default_rows a.id (reading_by a) a.defaults rows))) ≡ true)
    (λ held. find_some (λ r. bytes_eq r.id a.id) rows held)
    (λ none.
    let put : default_rows a.id (reading_by a) a.defaults rows ≡ rows ++ new_row a DefaultValue text ∷ [] = ap (λ texts. default_rows a.id (reading_by a) texts rows) is ∙ absent a.id (more_values DefaultValue (text ∷ [])) (new_row a DefaultValue text ∷ []) rows none in
    subst (λ rs. is_some (find (λ r. bytes_eq r.id a.id) rs) ≡ true) (sym put) (find_last (λ r. bytes_eq r.id a.id) rows (new_row a DefaultValue text) ((bytes_eq-Decides a.id a.id).1 refl)))

-- and so has one that was given
pub given_row : (id : Text) (rows : List Row) → is_given id rows ≡ true → is_some (find (λ r. bytes_eq r.id id) rows) ≡ true
given_row id rows given = go (find (λ r. bytes_eq r.id id) rows) given
  where
    go : (o : Option Row) → option_map_or (λ r. explicit_source r.source) o false ≡ true → is_some o ≡ true
    go None e = e
    go (Some r) e = refl

-- ---- a leaf with these arguments, once built

abbrev pub leaf : Text → List Rule → Shape
leaf name rules = record (new_shape name) { rules = rules; disable_help_flag = true; disable_help_subcommand = true; no_binary_name = true; is_built = true }

module _ (name : Text) (rules : List Rule) (own : Every (IsSet rules) rules) where
  abbrev Fit : List Row → Type 0
  Fit rows = AreFit rules rows

  owned : (p : Rule → Bool) → IfSome (find p rules) (IsSet rules)
  owned p = first_part (IsSet rules) (λ a. p a ≡ true) (find p rules) (found_of (IsSet rules) p rules own)

  pending_fit : (pending : Option (Text × List Text)) (rows : List Row) → Fit rows
      → option_map_or (λ p. option_map_or (λ a. use_passes false a p.1 rows) (arg_by_id rules p.0) true) pending true ≡ true → Fit (settled_rows rules pending rows)
  pending_fit None rows all e = all
  pending_fit (Some p) rows all e = by_id_fit rules (arg_by_id rules p.0) p.1 rows (owned (λ a. bytes_eq a.id p.0)) all e

  settled_fit : (h : Held) → Fit h.rows → settle_passes rules false h ≡ true → Fit (settled rules h).rows
  settled_fit h all e = pending_fit h.pending h.rows all e

  reacted_fit : (a : Rule) (texts : List Text) (h : Held) → IsSet rules a → Fit h.rows → react_passes rules false a texts h ≡ true → Fit (reacted rules a texts h).rows
  reacted_fit a texts h set all e =
      let parts = both (settle_passes rules false h) (use_passes false a texts (settled rules h).rows) e in
      used_fit rules a texts (settled rules h).rows set (settled_fit h all parts.0) parts.1

  -- ---- a word

  option_fit : (a : Rule) (v : Option Text) (h : Held) → IsSet rules a → Fit h.rows → option_passes rules false a v h ≡ true → Fit (option_met rules a v h).0.rows
  option_fit a (Some text) h set all e = reacted_fit a (text ∷ []) h set all e
  option_fit a None h set all e = settled_fit h all e

  long_fit : (found : Option Rule) (v : Option Text) (h : Held) → IfSome found (IsSet rules) → Fit h.rows → long_passes rules false found v h ≡ true → Fit (long_met rules found v h).0.rows
  long_fit None v h set all e = absurd (true≢false (sym e))
  long_fit (Some a) v h set all e = go (takes_values a) v e
    where
      go : (b : Bool) (w : Option Text) → cond b (option_passes rules false a w h) (not (is_some w) && react_passes rules false a [] h) ≡ true → Fit (cond b (option_met rules a w h) (flag_met rules a w h)).0.rows
      go true w e = option_fit a w h set all e
      go false (Some w) e = all
      go false None e = reacted_fit a [] h set all e

  short_fit : (found : Option Rule) (flags : Text) (h : Held) (after : Held → Held × Outcome) (p : Held → Bool) → ((k : Held) → Fit k.rows → p k ≡ true → Fit (after k).0.rows)
      → IfSome found (IsSet rules) → Fit h.rows → short_passes rules false found flags h p ≡ true → Fit (short_met rules found flags h after).0.rows
  short_fit None flags h after p goes set all e = absurd (true≢false (sym e))
  short_fit (Some a) flags h after p goes set all e = go (takes_values a) e
    where
      go : (b : Bool) → cond b (option_passes rules false a (attached_value flags) h) (react_passes rules false a [] h && p (reacted rules a [] h)) ≡ true
          → Fit (cond b (option_met rules a (attached_value flags) h) (after (reacted rules a [] h))).0.rows
      go true e = option_fit a (attached_value flags) h set all e
      go false e =
          let parts = both (react_passes rules false a [] h) (p (reacted rules a [] h)) e in
          goes (reacted rules a [] h) (reacted_fit a [] h set all parts.0) parts.1

  step_fit : (first : Option ℕ) (flags : Text) (skip : ℕ) (so_far : Outcome) (h : Held) (after : Text → ℕ → Outcome → Held → Held × Outcome) (p : Text → ℕ → Held → Bool)
      → ((t : Text) (n : ℕ) (o : Outcome) (k : Held) → Fit k.rows → p t n k ≡ true → Fit (after t n o k).0.rows)
      → Fit h.rows → bundle_step_passes rules false first flags skip h p ≡ true → Fit (bundle_step rules first flags skip so_far h after).0.rows
  step_fit None flags skip so_far h after p goes all e = all
  step_fit (Some x) flags zero so_far h after p goes all e =
      let rest = drop (length (encode_utf8 x)) flags in
      short_fit (arg_by_short rules x) rest h (after rest 0 done) (p rest 0) (goes rest 0 done) (owned (λ a. not (is_some a.index) && has_short a x)) all e
  step_fit (Some x) flags (suc skip) so_far h after p goes all e = goes (drop (length (encode_utf8 x)) flags) skip so_far h all e

  bundle_fit : (n : ℕ) (flags : Text) (skip : ℕ) (so_far : Outcome) (h : Held) → Fit h.rows → flags_pass rules false n flags skip h ≡ true → Fit (bundle_met rules n flags skip so_far h).0.rows
  unfolding bundle_met flags_pass
  bundle_fit zero flags skip so_far h all e = all
  bundle_fit (suc n) flags skip so_far h all e = step_fit (slice_get (chars flags) 0) flags skip so_far h (bundle_met rules n) (flags_pass rules false n) (bundle_fit n) all e

  option_rows : (found : Option Rule) (id word : Text) (h : Held) → (option_word found id word h).0.rows ≡ h.rows
  option_rows None id word h = refl
  option_rows (Some a) id word h = refl

  plain_rows : (waiting : Waiting) (word : Text) (h : Held) → (plain_word rules waiting word h).0.rows ≡ h.rows
  plain_rows idle word h = refl
  plain_rows positional word h = refl
  plain_rows (option id) word h = option_rows (arg_by_id rules id) id word h

  flag_rows : (waiting : Waiting) (word : Text) (h : Held) (o : Outcome) → (after_flag rules waiting word h o).0.rows ≡ h.rows
  flag_rows waiting word h done = refl
  flag_rows waiting word h (waits id) = refl
  flag_rows waiting word h plain = plain_rows waiting word h
  flag_rows waiting word h refused = plain_rows waiting word h

  short_word_fit : (waiting : Waiting) (word : Text) (flags : Option Text) (h : Held) → Fit h.rows → option_map_or (λ f. bundle_passes rules false f h) flags true ≡ true → Fit (short_or_plain rules waiting word flags h).0.rows
  short_word_fit waiting word (Some flags) h all e =
      subst Fit (sym (flag_rows waiting word (bundle rules flags h).0 (bundle rules flags h).1)) (bundle_fit (length flags) flags h.skip plain (record h { skip = 0 }) all e)
  short_word_fit waiting word None h all e = subst Fit (sym (plain_rows waiting word h)) all

  flagged_fit : (waiting : Waiting) (word : Text) (parts : Option (Text × Option Text)) (h : Held) → Fit h.rows
      → flag_word_passes rules false parts word h ≡ true → Fit (long_or_other rules waiting word parts h).0.rows
  flagged_fit waiting word (Some p) h all e =
      let met = long_met rules (arg_by_long rules p.0) p.1 h in
      subst Fit (sym (flag_rows waiting word met.0 met.1)) (long_fit (arg_by_long rules p.0) p.1 h (owned (λ a. not (is_some a.index) && has_long a p.0)) all e)
  flagged_fit waiting word None h all e = short_word_fit waiting word (short_of word) h all e

  other_fit : (b : Bool) (waiting : Waiting) (position : ℕ) (word : Text) (h : Held) → Fit h.rows → (b || flag_word_passes rules false (long_of word) word h) ≡ true
      → Fit (cond b (h, trailing position) (long_or_other rules waiting word (long_of word) h)).0.rows
  other_fit true waiting position word h all e = all
  other_fit false waiting position word h all e = flagged_fit waiting word (long_of word) h all e

  named_fit : (waiting : Waiting) (position : ℕ) (word : Text) (h : Held) → Fit h.rows → other_passes (leaf name rules) (subcommand_met [] waiting word) word h ≡ true
      → Fit (subcommand_or_other rules (subcommand_met [] waiting word) waiting position word h).0.rows
  named_fit idle position word h all e = other_fit (bytes_eq word (45 ∷ 45 ∷ [])) idle position word h all e
  named_fit (option id) position word h all e = other_fit (bytes_eq word (45 ∷ 45 ∷ [])) (option id) position word h all e
  named_fit positional position word h all e = other_fit (bytes_eq word (45 ∷ 45 ∷ [])) positional position word h all e

  met_fit : (b : Bool) (waiting : Waiting) (position : ℕ) (word : Text) (h : Held) → Fit h.rows → word_passes (leaf name rules) [] b waiting word h ≡ true
      → Fit (word_met rules [] b waiting position word h).0.rows
  met_fit true waiting position word h all e = all
  met_fit false waiting position word h all e = named_fit waiting position word h all e

  -- ---- the walk

  placed_fit : (found : Option Rule) (word : Text) (w : Walk) (h : Held) → Fit h.rows → option_map_or (λ a. positional_passes rules false a h) found false ≡ true → Fit (to_positional rules found word w h).held.rows
  placed_fit None word w h all e = absurd (true≢false (sym e))
  placed_fit (Some a) word w h all e = go (is_pending a h.pending && takes_several a) e
    where
      go : (b : Bool) → (b || settle_passes rules false h) ≡ true → Fit (cond b h (settled rules h)).rows
      go true e = all
      go false e = settled_fit h all e

  stepped_fit : (word : Text) (w : Walk) (h : Held) (step : Step) → Fit h.rows → step_passes (leaf name rules) w.position h step ≡ true → Fit (after_step rules word w h step).held.rows
  stepped_fit word w h (next waiting) all e = all
  stepped_fit word w h (trailing position) all e = all
  stepped_fit word w h (subcommand other) all e = all
  stepped_fit word w h value all e = placed_fit (arg_by_index rules w.position) word w h all e

  turn_fit : (stopped : Option (Text × List Text)) (w : Walk) (word : Text) → Fit w.held.rows
      → (is_some stopped || (word_passes (leaf name rules) [] w.is_trailing w.waiting word w.held
      && step_passes (leaf name rules) w.position (word_met rules [] w.is_trailing w.waiting w.position word w.held).0 (word_met rules [] w.is_trailing w.waiting w.position word w.held).1)) ≡ true
      → Fit (walked_from rules [] stopped w word).held.rows
  turn_fit (Some p) w word all e = all
  turn_fit None w word all e =
      let met = word_met rules [] w.is_trailing w.waiting w.position word w.held in
      let parts = both (word_passes (leaf name rules) [] w.is_trailing w.waiting word w.held) _ e in
      stepped_fit word w met.0 met.1 (met_fit w.is_trailing w.waiting w.position word w.held all parts.0) parts.1

  walk_fit : (w : Walk) (words : List Text) → Fit w.held.rows → walk_passes (leaf name rules) [] w words ≡ true → Fit (fold (walked rules []) w words).held.rows
  unfolding walk_passes walked
  walk_fit w [] all e = all
  walk_fit w (word ∷ words) all e =
      let parts = both (turn_passes (leaf name rules) [] w word) (walk_passes (leaf name rules) [] (walked rules [] w word) words) e in
      walk_fit (walked rules [] w word) words (turn_fit w.stopped w word all parts.0) parts.1

  -- what is held at the end fits, and what the command requires of it is met
  pub level_fit : (words : List Text) → level_passes (leaf name rules) [] nothing_held words false ≡ true → Fit (rows_after rules [] words) × (is_valid (leaf name rules) (rows_after rules [] words) false ≡ true)
  level_fit words e =
      let end = (walk rules [] nothing_held words).held in
      let parts = both (walk_passes (leaf name rules) [] (walk_from nothing_held) words) _ e in
      let settles = both (settle_passes rules false end) _ parts.1 in
      let defaults = both (list_all default_passes rules) _ settles.1 in
      (defaults_fit rules rules (settled rules end).rows own defaults.0 (settled_fit end (walk_fit (walk_from nothing_held) words tt parts.0) settles.0), defaults.1)
