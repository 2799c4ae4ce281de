-- An option that is new changes nothing of words that were taken without it: none of them names it, so it has no row.
use Rattle.std.proofs.Common.{◌≡◌, ℕ, zero, suc, Bool, true, false, not, ◌&&◌, ◌||◌, cond, List, [], ◌∷◌, ◌++◌, length, drop, Option, Some, None, is_some, IfSome, refl, sym, ap, ap₂, subst, ◌∙◌, true≢false, codes}
use Rattle.std.specs.Prelude.{◌==◌, encode_utf8, find, fold, nat_lt, option_and_then, slice_get}
use Rattle.std.specs.List.{list_all, list_any}
use Rattle.std.specs.Option.{option_map_or}
use Rattle.std.specs.Str.{bytes_eq, chars}
use Rattle.std.proofs.lemmas.Slice.Eq.{bytes_eq-Decides}
use Rattle.clap.specs.Lexer.{long_of, short_of}
use Rattle.clap.specs.Walk.{Held, Outcome, Row, Rule, Step, Text, Waiting, Walk, action_of, after_flag, after_step, arg_by_id, arg_by_index, arg_by_long, arg_by_short, at_row, attached_value, bundle_met, bundle_step, default_rows, done, finished, first_of, flag_met, has_long, has_row, has_short, idle, is_multiple, is_pending, long_met, long_or_other, more_values, most_values, next, next_position, nothing_held, option, option_met, option_word, pending_count, plain, plain_word, positional, pushed, reacted, reading_by, refused, rows_after, settled, settled_rows, short_met, short_or_plain, started, subcommand, subcommand_met, subcommand_or_other, takes_several, takes_values, to_positional, trailing, used, used_as, used_by_id, value, values_or_missing, waits, walk, walk_from, walked, walked_from, with_default, with_values, without, word_met}
use Rattle.clap.specs.Takes.{bundle_passes, bundle_step_passes, default_passes, flag_word_passes, flags_pass, is_valid, level_passes, long_passes, option_passes, other_passes, positional_passes, react_passes, settle_passes, short_passes, step_passes, turn_passes, use_passes, walk_passes, word_passes}
use Rattle.clap.specs.declared.builder.action.ArgAction.TheVariants.{Set}
use Rattle.clap.specs.declared.parser.matches.ValueSource.{ValueSource}
use Rattle.clap.specs.declared.parser.matches.ValueSource.TheVariants.{CommandLine, DefaultValue}
use Rattle.clap.specs.declared.builder.value_parser.Reading.{Reading}
use Rattle.clap.proofs.WalkLemmas.{both}
use Rattle.pf_entry.proofs.Cases.{by_test}
use Rattle.pf_entry.specs.Lists.{Every}
use Rattle.pf_run_words.proofs.Rows.{first_part, found_of, leaf}
use Rattle.pf_run_words.proofs.WordLaws.{dir_here}

abbrev dir : Text
dir = codes "dir"

-- another argument, which sets a value
pub record IsOlder (a : Rule) : Type 0 where
  pub action : action_of a ≡ Set
  pub other : bytes_eq dir a.id ≡ false
  pub apart : bytes_eq a.id dir ≡ false

neither : (a b : Bool) → (a || b) ≡ false → (a ≡ false) × (b ≡ false)
neither true b e = absurd (true≢false e)
neither false b e = (refl, e)

find_none : {X : Type 0} (p : X → Bool) (xs : List X) → list_any p xs ≡ false → find p xs ≡ None
find_none p [] e = refl
find_none p (x ∷ xs) e =
    let parts = neither (p x) (list_any p xs) e in
    ap (λ b. cond b (Some x) (find p xs)) parts.0 ∙ find_none p xs parts.1

-- ---- no row is of the new option

abbrev HasNoRow : List Row → Type 0
HasNoRow rows = has_row dir rows ≡ false

none_of_both : (xs ys : List Row) → HasNoRow xs → HasNoRow ys → HasNoRow (xs ++ ys)
none_of_both [] ys none more = more
none_of_both (r ∷ xs) ys none more =
    let parts = neither (bytes_eq r.id dir) (has_row dir xs) none in
    ap₂ ◌||◌ parts.0 (none_of_both xs ys parts.1 more)

at_row_none : (id : Text) (change : Row → List Row) (missing rows : List Row) → ((r : Row) → bytes_eq r.id dir ≡ false → HasNoRow (change r)) → HasNoRow missing → HasNoRow rows → HasNoRow (at_row id change missing rows)
at_row_none id change missing [] changes absent none = absent
at_row_none id change missing (r ∷ rows) changes absent none =
    let parts = neither (bytes_eq r.id dir) (has_row dir rows) none in
    by_test (bytes_eq r.id id) (λ b. HasNoRow (cond b (change r ++ rows) (r ∷ at_row id change missing rows)))
    (λ _. none_of_both (change r) rows (changes r parts.0) parts.1) (λ _. ap₂ ◌||◌ parts.0 (at_row_none id change missing rows changes absent parts.1))

values_none : (id : Text) (how : Reading) (source : ValueSource) (values : List Text) (rows : List Row) → bytes_eq id dir ≡ false → HasNoRow rows → HasNoRow (with_values id how source values rows)
values_none id how source values rows apart none =
    at_row_none id (more_values source values) (record { id = id; values = values; count = None; source = Some source; reading = how } ∷ []) rows (λ r other. ap₂ ◌||◌ other refl) (ap₂ ◌||◌ apart refl) none

used_none : (a : Rule) (values : List Text) (rows : List Row) → IsOlder a → HasNoRow rows → HasNoRow (used a values rows)
used_none a values rows older none =
    subst (λ x. HasNoRow (used_as x a.id (reading_by a) (values_or_missing a values) rows)) (sym older.action)
    (values_none a.id (reading_by a) CommandLine (values_or_missing a values) (without a.id rows) older.apart (at_row_none a.id (λ _. []) [] rows (λ r other. refl) refl none))

by_id_none : (found : Option Rule) (values : List Text) (rows : List Row) → IfSome found IsOlder → HasNoRow rows → HasNoRow (used_by_id found values rows)
by_id_none None values rows older none = none
by_id_none (Some a) values rows older none = used_none a values rows older none

given_none : (a : Rule) (texts : List Text) (rows : List Row) → IsOlder a → HasNoRow rows → HasNoRow (default_rows a.id (reading_by a) texts rows)
given_none a [] rows older none = none
given_none a (text ∷ texts) rows older none = values_none a.id (reading_by a) DefaultValue (text ∷ texts) rows older.apart none

default_none : (a : Rule) (rows : List Row) → IsOlder a → HasNoRow rows → HasNoRow (with_default rows a)
default_none a rows older none = by_test (has_row a.id rows) (λ b. HasNoRow (cond b rows (default_rows a.id (reading_by a) a.defaults rows))) (λ _. none) (λ _. given_none a a.defaults rows older none)

defaults_none : (given : List Rule) (rows : List Row) → Every IsOlder given → HasNoRow rows → HasNoRow (fold with_default rows given)
defaults_none [] rows older none = none
defaults_none (a ∷ given) rows older none = defaults_none given (with_default rows a) older.1 (default_none a rows older.0 none)

first_none : (rows : List Row) → HasNoRow rows → first_of dir rows ≡ None
first_none rows none = ap (option_and_then (λ (r : Row). slice_get r.values 0)) (find_none (λ (r : Row). bytes_eq r.id dir) rows none)

no_default : (rows : List Row) → with_default rows dir_here ≡ rows
no_default rows = by_test (has_row dir rows) (λ b. cond b rows rows ≡ rows) (λ _. refl) (λ _. refl)

-- ---- what the words without it leave

-- what is held, waits, or comes next is not the new option
pub record IsOld (h : Held) : Type 0 where
  pub pending : option_map_or (λ p. bytes_eq dir p.0) h.pending false ≡ false
  pub rows : HasNoRow h.rows

abbrev WaitsOld : Waiting → Type 0
WaitsOld (option id) = bytes_eq dir id ≡ false
WaitsOld idle = Unit {0}
WaitsOld positional = Unit {0}

abbrev StepsOld : Step → Type 0
StepsOld (next waiting) = WaitsOld waiting
StepsOld (trailing position) = Unit {0}
StepsOld (subcommand name) = Unit {0}
StepsOld value = Unit {0}

abbrev EndsOld : Outcome → Type 0
EndsOld (waits id) = bytes_eq dir id ≡ false
EndsOld done = Unit {0}
EndsOld plain = Unit {0}
EndsOld refused = Unit {0}

record IsOldWalk (w : Walk) : Type 0 where
  held : IsOld w.held
  waiting : WaitsOld w.waiting

abbrev IsOldEnd : Held × Outcome → Type 0
IsOldEnd met = IsOld met.0 × EndsOld met.1

abbrev IsOldMet : Held × Step → Type 0
IsOldMet met = IsOld met.0 × StepsOld met.1

pushed_old : (id word : Text) (h : Held) → bytes_eq dir id ≡ false → IsOld h → IsOld (pushed id word h)
pushed_old id word h other old = record { pending = go h.pending old.pending; rows = old.rows }
  where
    go : (p : Option (Text × List Text)) → option_map_or (λ q. bytes_eq dir q.0) p false ≡ false → bytes_eq dir (started id p).0 ≡ false
    go None e = other
    go (Some p) e = e

waits_for : (b : Bool) (id : Text) → bytes_eq dir id ≡ false → WaitsOld (cond b (option id) idle)
waits_for true id other = other
waits_for false id other = tt

option_old : (found : Option Rule) (id word : Text) (h : Held) → bytes_eq dir id ≡ false → IsOld h → IsOld (option_word found id word h).0 × WaitsOld (option_word found id word h).1
option_old None id word h other old = (old, other)
option_old (Some a) id word h other old = (pushed_old id word h other old, waits_for (nat_lt (pending_count a (pushed id word h).pending) (most_values a)) id other)

-- ---- the same with it

module _ (name : Text) (rules : List Rule) (own : Every IsOlder rules) (unknown : arg_by_long rules dir ≡ None) where
  abbrev more : List Rule
  more = dir_here ∷ rules

  owned : (p : Rule → Bool) → IfSome (find p rules) IsOlder
  owned p = first_part IsOlder (λ a. p a ≡ true) (find p rules) (found_of IsOlder p rules own)

  by_id : (id : Text) → bytes_eq dir id ≡ false → arg_by_id more id ≡ arg_by_id rules id
  by_id id other = ap (λ b. cond b (Some dir_here) (arg_by_id rules id)) other

  by_long : (long : Text) → bytes_eq dir long ≡ false → arg_by_long more long ≡ arg_by_long rules long
  by_long long other = ap (λ b. cond (b || false) (Some dir_here) (arg_by_long rules long)) other

  -- ---- a use

  rows_same : (p : Option (Text × List Text)) (rows : List Row) → option_map_or (λ q. bytes_eq dir q.0) p false ≡ false → settled_rows more p rows ≡ settled_rows rules p rows
  rows_same None rows other = refl
  rows_same (Some p) rows other = ap (λ o. used_by_id o p.1 rows) (by_id p.0 other)

  settled_same : (h : Held) → IsOld h → settled more h ≡ settled rules h
  settled_same h old = ap (λ rows. record h { rows = rows; pending = None }) (rows_same h.pending h.rows old.pending)

  settle_same : (h : Held) → IsOld h → settle_passes more false h ≡ settle_passes rules false h
  settle_same h old = go h.pending old.pending
    where
      go : (p : Option (Text × List Text)) → option_map_or (λ q. bytes_eq dir q.0) p false ≡ false
          → option_map_or (λ q. option_map_or (λ a. use_passes false a q.1 h.rows) (arg_by_id more q.0) true) p true ≡ option_map_or (λ q. option_map_or (λ a. use_passes false a q.1 h.rows) (arg_by_id rules q.0) true) p true
      go None other = refl
      go (Some p) other = ap (λ o. option_map_or (λ a. use_passes false a p.1 h.rows) o true) (by_id p.0 other)

  settled_old : (h : Held) → IsOld h → IsOld (settled rules h)
  settled_old h old = record { pending = refl; rows = go h.pending }
    where
      go : (p : Option (Text × List Text)) → HasNoRow (settled_rows rules p h.rows)
      go None = old.rows
      go (Some p) = by_id_none (arg_by_id rules p.0) p.1 h.rows (owned (λ a. bytes_eq a.id p.0)) old.rows

  reacted_same : (a : Rule) (values : List Text) (h : Held) → IsOld h → reacted more a values h ≡ reacted rules a values h
  reacted_same a values h old = ap (λ (k : Held). record h { rows = used a values k.rows; pending = None }) (settled_same h old)

  react_same : (a : Rule) (values : List Text) (h : Held) → IsOld h → react_passes more false a values h ≡ react_passes rules false a values h
  react_same a values h old = ap₂ (λ (b : Bool) (k : Held). b && use_passes false a values k.rows) (settle_same h old) (settled_same h old)

  reacted_old : (a : Rule) (values : List Text) (h : Held) → IsOlder a → IsOld h → IsOld (reacted rules a values h)
  reacted_old a values h older old = record { pending = refl; rows = used_none a values (settled rules h).rows older (settled_old h old).rows }

  -- ---- a flag

  option_same : (a : Rule) (v : Option Text) (h : Held) → IsOlder a → IsOld h
      → (option_passes more false a v h ≡ option_passes rules false a v h) × (option_met more a v h ≡ option_met rules a v h) × IsOldEnd (option_met rules a v h)
  option_same a (Some v) h older old = (react_same a (v ∷ []) h old, ap (λ k. (k, done)) (reacted_same a (v ∷ []) h old), (reacted_old a (v ∷ []) h older old, tt))
  option_same a None h older old = (
    settle_same h old,
    ap (λ (k : Held). (record k { pending = Some (a.id, []) }, waits a.id)) (settled_same h old),
    (record { pending = older.other; rows = (settled_old h old).rows }, older.other),
  )

  flag_same : (a : Rule) (v : Option Text) (h : Held) → IsOlder a → IsOld h
      → ((not (is_some v) && react_passes more false a [] h) ≡ (not (is_some v) && react_passes rules false a [] h)) × (flag_met more a v h ≡ flag_met rules a v h) × IsOldEnd (flag_met rules a v h)
  flag_same a (Some v) h older old = (refl, refl, (old, tt))
  flag_same a None h older old = (react_same a [] h old, ap (λ k. (k, done)) (reacted_same a [] h old), (reacted_old a [] h older old, tt))

  found_same : (found : Option Rule) (v : Option Text) (h : Held) → IfSome found IsOlder → IsOld h
      → (long_passes more false found v h ≡ long_passes rules false found v h) × (long_met more found v h ≡ long_met rules found v h) × IsOldEnd (long_met rules found v h)
  found_same None v h older old = (refl, refl, (old, tt))
  found_same (Some a) v h older old = go (takes_values a)
    where
      go : (b : Bool) → (cond b (option_passes more false a v h) (not (is_some v) && react_passes more false a [] h) ≡ cond b (option_passes rules false a v h) (not (is_some v) && react_passes rules false a [] h))
          × (cond b (option_met more a v h) (flag_met more a v h) ≡ cond b (option_met rules a v h) (flag_met rules a v h)) × IsOldEnd (cond b (option_met rules a v h) (flag_met rules a v h))
      go true = option_same a v h older old
      go false = flag_same a v h older old

  -- a long name that was known is not that of the new option
  known : (long : Text) (v : Option Text) (h : Held) → long_passes rules false (arg_by_long rules long) v h ≡ true → bytes_eq dir long ≡ false
  known long v h e =
      by_test (bytes_eq dir long) (λ b. b ≡ false)
      (λ is. absurd (true≢false (sym (subst (λ o. long_passes rules false o v h ≡ true) (ap (arg_by_long rules) (sym ((bytes_eq-Decides dir long).0 is)) ∙ unknown) e)))) (λ _. refl)

  long_same : (long : Text) (v : Option Text) (h : Held) → IsOld h → long_passes rules false (arg_by_long rules long) v h ≡ true
      → (long_passes more false (arg_by_long more long) v h ≡ true) × (long_met more (arg_by_long more long) v h ≡ long_met rules (arg_by_long rules long) v h) × IsOldEnd (long_met rules (arg_by_long rules long) v h)
  long_same long v h old e =
      let found = by_long long (known long v h e) in
      let same = found_same (arg_by_long rules long) v h (owned (λ a. not (is_some a.index) && has_long a long)) old in
      (ap (λ o. long_passes more false o v h) found ∙ same.0 ∙ e, ap (λ o. long_met more o v h) found ∙ same.1, same.2)

  short_same : (found : Option Rule) (flags : Text) (h : Held) (after now : Held → Held × Outcome) (p q : Held → Bool) → ((k : Held) → IsOld k → (q k ≡ p k) × (now k ≡ after k) × IsOldEnd (after k))
      → IfSome found IsOlder → IsOld h → (short_passes more false found flags h q ≡ short_passes rules false found flags h p) × (short_met more found flags h now ≡ short_met rules found flags h after) × IsOldEnd (short_met rules found flags h after)
  short_same None flags h after now p q goes older old = (refl, refl, (old, tt))
  short_same (Some a) flags h after now p q goes older old = go (takes_values a)
    where
      go : (b : Bool) → (cond b (option_passes more false a (attached_value flags) h) (react_passes more false a [] h && q (reacted more a [] h)) ≡ cond b (option_passes rules false a (attached_value flags) h) (react_passes rules false a [] h && p (reacted rules a [] h)))
          × (cond b (option_met more a (attached_value flags) h) (now (reacted more a [] h)) ≡ cond b (option_met rules a (attached_value flags) h) (after (reacted rules a [] h)))
          × IsOldEnd (cond b (option_met rules a (attached_value flags) h) (after (reacted rules a [] h)))
      go true = option_same a (attached_value flags) h older old
      go false =
          let same = reacted_same a [] h old in
          let later = goes (reacted rules a [] h) (reacted_old a [] h older old) in
          (ap₂ ◌&&◌ (react_same a [] h old) (ap q same ∙ later.0), ap now same ∙ later.1, later.2)

  flags_step_same : (first : Option ℕ) (flags : Text) (skip : ℕ) (so_far : Outcome) (h : Held) (after now : Text → ℕ → Outcome → Held → Held × Outcome) (p q : Text → ℕ → Held → Bool)
      → ((t : Text) (n : ℕ) (o : Outcome) (k : Held) → EndsOld o → IsOld k → (q t n k ≡ p t n k) × (now t n o k ≡ after t n o k) × IsOldEnd (after t n o k)) → EndsOld so_far → IsOld h
      → (bundle_step_passes more false first flags skip h q ≡ bundle_step_passes rules false first flags skip h p) × (bundle_step more first flags skip so_far h now ≡ bundle_step rules first flags skip so_far h after)
      × IsOldEnd (bundle_step rules first flags skip so_far h after)
  flags_step_same None flags skip so_far h after now p q goes ends old = (refl, refl, (old, ends))
  flags_step_same (Some x) flags zero so_far h after now p q goes ends old =
      let rest = drop (length (encode_utf8 x)) flags in
      short_same (arg_by_short rules x) rest h (after rest 0 done) (now rest 0 done) (p rest 0) (q rest 0) (λ k o. goes rest 0 done k tt o) (owned (λ a. not (is_some a.index) && has_short a x)) old
  flags_step_same (Some x) flags (suc skip) so_far h after now p q goes ends old = goes (drop (length (encode_utf8 x)) flags) skip so_far h ends old

  bundle_same : (n : ℕ) (flags : Text) (skip : ℕ) (so_far : Outcome) (h : Held) → EndsOld so_far → IsOld h
      → (flags_pass more false n flags skip h ≡ flags_pass rules false n flags skip h) × (bundle_met more n flags skip so_far h ≡ bundle_met rules n flags skip so_far h) × IsOldEnd (bundle_met rules n flags skip so_far h)
  unfolding bundle_met flags_pass
  bundle_same zero flags skip so_far h ends old = (refl, refl, (old, ends))
  bundle_same (suc n) flags skip so_far h ends old =
      flags_step_same (slice_get (chars flags) 0) flags skip so_far h (bundle_met rules n) (bundle_met more n) (flags_pass rules false n) (flags_pass more false n) (bundle_same n) ends old

  -- ---- a word

  plain_same : (waiting : Waiting) (word : Text) (h : Held) → WaitsOld waiting → IsOld h → (plain_word more waiting word h ≡ plain_word rules waiting word h) × IsOldMet (plain_word rules waiting word h)
  plain_same idle word h still old = (refl, (old, tt))
  plain_same positional word h still old = (refl, (old, tt))
  plain_same (option id) word h still old = (
    ap (λ o. ((option_word o id word h).0, next (option_word o id word h).1)) (by_id id still),
    option_old (arg_by_id rules id) id word h still old,
  )

  after_same : (waiting : Waiting) (word : Text) (h : Held) (o : Outcome) → WaitsOld waiting → IsOld h → EndsOld o → (after_flag more waiting word h o ≡ after_flag rules waiting word h o) × IsOldMet (after_flag rules waiting word h o)
  after_same waiting word h done still old ends = (refl, (old, tt))
  after_same waiting word h (waits id) waiting_old old ends = (refl, (old, ends))
  after_same waiting word h plain still old ends = plain_same waiting word h still old
  after_same waiting word h refused still old ends = plain_same waiting word h still old

  shorts_same : (waiting : Waiting) (word : Text) (flags : Option Text) (h : Held) → WaitsOld waiting → IsOld h → option_map_or (λ f. bundle_passes rules false f h) flags true ≡ true
      → (option_map_or (λ f. bundle_passes more false f h) flags true ≡ true) × (short_or_plain more waiting word flags h ≡ short_or_plain rules waiting word flags h) × IsOldMet (short_or_plain rules waiting word flags h)
  shorts_same waiting word (Some flags) h still old e =
      let met = bundle_met rules (length flags) flags h.skip plain (record h { skip = 0 }) in
      let same = bundle_same (length flags) flags h.skip plain (record h { skip = 0 }) tt (record { pending = old.pending; rows = old.rows }) in
      let after = after_same waiting word met.0 met.1 still same.2.0 same.2.1 in
      (same.0 ∙ e, ap (λ (m : Held × Outcome). after_flag more waiting word m.0 m.1) same.1 ∙ after.0, after.1)
  shorts_same waiting word None h still old e = let same = plain_same waiting word h still old in (refl, same.0, same.1)

  flagged_same : (waiting : Waiting) (word : Text) (parts : Option (Text × Option Text)) (h : Held) → WaitsOld waiting → IsOld h → flag_word_passes rules false parts word h ≡ true
      → (flag_word_passes more false parts word h ≡ true) × (long_or_other more waiting word parts h ≡ long_or_other rules waiting word parts h) × IsOldMet (long_or_other rules waiting word parts h)
  flagged_same waiting word (Some p) h still old e =
      let met = long_met rules (arg_by_long rules p.0) p.1 h in
      let same = long_same p.0 p.1 h old e in
      let after = after_same waiting word met.0 met.1 still same.2.0 same.2.1 in
      (same.0, ap (λ (m : Held × Outcome). after_flag more waiting word m.0 m.1) same.1 ∙ after.0, after.1)
  flagged_same waiting word None h still old e = shorts_same waiting word (short_of word) h still old e

  other_same : (b : Bool) (waiting : Waiting) (position : ℕ) (word : Text) (h : Held) → WaitsOld waiting → IsOld h → (b || flag_word_passes rules false (long_of word) word h) ≡ true
      → ((b || flag_word_passes more false (long_of word) word h) ≡ true) × (cond b (h, trailing position) (long_or_other more waiting word (long_of word) h) ≡ cond b (h, trailing position) (long_or_other rules waiting word (long_of word) h))
      × IsOldMet (cond b (h, trailing position) (long_or_other rules waiting word (long_of word) h))
  other_same true waiting position word h still old e = (refl, refl, (old, tt))
  other_same false waiting position word h still old e = flagged_same waiting word (long_of word) h still old e

  abbrev GoesOn : (waiting : Waiting) (position : ℕ) (word : Text) (h : Held) → Type 0
  GoesOn waiting position word h =
      (other_passes (leaf name more) (subcommand_met [] waiting word) word h ≡ true)
      × (subcommand_or_other more (subcommand_met [] waiting word) waiting position word h ≡ subcommand_or_other rules (subcommand_met [] waiting word) waiting position word h)
      × IsOldMet (subcommand_or_other rules (subcommand_met [] waiting word) waiting position word h)

  named_same : (waiting : Waiting) (position : ℕ) (word : Text) (h : Held) → WaitsOld waiting → IsOld h → other_passes (leaf name rules) (subcommand_met [] waiting word) word h ≡ true → GoesOn waiting position word h
  named_same idle position word h still old e = other_same (bytes_eq word (45 ∷ 45 ∷ [])) idle position word h still old e
  named_same (option id) position word h still old e = other_same (bytes_eq word (45 ∷ 45 ∷ [])) (option id) position word h still old e
  named_same positional position word h still old e = other_same (bytes_eq word (45 ∷ 45 ∷ [])) positional position word h still old e

  met_same : (b : Bool) (waiting : Waiting) (position : ℕ) (word : Text) (h : Held) → WaitsOld waiting → IsOld h → word_passes (leaf name rules) [] b waiting word h ≡ true
      → (word_passes (leaf name more) [] b waiting word h ≡ true) × (word_met more [] b waiting position word h ≡ word_met rules [] b waiting position word h) × IsOldMet (word_met rules [] b waiting position word h)
  met_same true waiting position word h still old e = (refl, refl, (old, tt))
  met_same false waiting position word h still old e = named_same waiting position word h still old e

  -- ---- the walk

  placed_same : (found : Option Rule) (word : Text) (w : Walk) (h : Held) → IfSome found IsOlder → IsOld h → option_map_or (λ a. positional_passes rules false a h) found false ≡ true
      → (option_map_or (λ a. positional_passes more false a h) found false ≡ true) × (to_positional more found word w h ≡ to_positional rules found word w h) × IsOldWalk (to_positional rules found word w h)
  placed_same None word w h older old e = absurd (true≢false (sym e))
  placed_same (Some a) word w h older old e =
      let again = is_pending a h.pending && takes_several a in (
        ap (λ b. again || b) (settle_same h old) ∙ e,
        ap (λ (k : Held). record { held = pushed a.id word (cond again h k); waiting = cond (is_multiple a) positional idle; position = next_position a w.position; is_trailing = w.is_trailing || a.trailing_var_arg; stopped = None })
            (settled_same h old),
        record {
          held = pushed_old a.id word (cond again h (settled rules h)) older.other (go again);
          waiting = several (is_multiple a);
        },
      )
    where
      go : (b : Bool) → IsOld (cond b h (settled rules h))
      go true = old
      go false = settled_old h old

      several : (b : Bool) → WaitsOld (cond b positional idle)
      several true = tt
      several false = tt

  stepped_same : (word : Text) (w : Walk) (h : Held) (step : Step) → IsOldWalk w → IsOld h → StepsOld step → step_passes (leaf name rules) w.position h step ≡ true
      → (step_passes (leaf name more) w.position h step ≡ true) × (after_step more word w h step ≡ after_step rules word w h step) × IsOldWalk (after_step rules word w h step)
  stepped_same word w h (next waiting) was old steps e = (refl, refl, record { held = old; waiting = steps })
  stepped_same word w h (trailing position) was old steps e = (refl, refl, record { held = old; waiting = was.waiting })
  stepped_same word w h (subcommand other) was old steps e = (refl, refl, record { held = old; waiting = was.waiting })
  stepped_same word w h value was old steps e = placed_same (arg_by_index rules w.position) word w h (owned (λ a. option_map_or (λ k. k == w.position) a.index false)) old e

  turn_same : (stopped : Option (Text × List Text)) (w : Walk) (word : Text) → IsOldWalk w
      → (is_some stopped || (word_passes (leaf name rules) [] w.is_trailing w.waiting word w.held
      && step_passes (leaf name rules) w.position (word_met rules [] w.is_trailing w.waiting w.position word w.held).0 (word_met rules [] w.is_trailing w.waiting w.position word w.held).1)) ≡ true
      → ((is_some stopped || (word_passes (leaf name more) [] w.is_trailing w.waiting word w.held
      && step_passes (leaf name more) w.position (word_met more [] w.is_trailing w.waiting w.position word w.held).0 (word_met more [] w.is_trailing w.waiting w.position word w.held).1)) ≡ true)
      × (walked_from more [] stopped w word ≡ walked_from rules [] stopped w word) × IsOldWalk (walked_from rules [] stopped w word)
  turn_same (Some p) w word was e = (refl, refl, record { held = was.held; waiting = was.waiting })
  turn_same None w word was e =
      let met = word_met rules [] w.is_trailing w.waiting w.position word w.held in
      let parts = both (word_passes (leaf name rules) [] w.is_trailing w.waiting word w.held) _ e in
      let same = met_same w.is_trailing w.waiting w.position word w.held was.waiting was.held parts.0 in
      let stepped = stepped_same word w met.0 met.1 was same.2.0 same.2.1 parts.1 in (
        ap₂ ◌&&◌ same.0 (subst (λ (m : Held × Step). step_passes (leaf name more) w.position m.0 m.1 ≡ true) (sym same.1) stepped.0),
        ap (λ (m : Held × Step). after_step more word w m.0 m.1) same.1 ∙ stepped.1,
        stepped.2,
      )

  walk_same : (w : Walk) (words : List Text) → IsOldWalk w → walk_passes (leaf name rules) [] w words ≡ true
      → (walk_passes (leaf name more) [] w words ≡ true) × (fold (walked more []) w words ≡ fold (walked rules []) w words) × IsOldWalk (fold (walked rules []) w words)
  unfolding walk_passes walked
  walk_same w [] was e = (refl, refl, was)
  walk_same w (word ∷ words) was e =
      let parts = both (turn_passes (leaf name rules) [] w word) (walk_passes (leaf name rules) [] (walked rules [] w word) words) e in
      let turn = turn_same w.stopped w word was parts.0 in
      let later = walk_same (walked rules [] w word) words turn.2 parts.1 in (
        ap₂ ◌&&◌ turn.0 (subst (λ v. walk_passes (leaf name more) [] v words ≡ true) (sym turn.1) later.0),
        subst (λ v. fold (walked more []) v words ≡ fold (walked rules []) (walked rules [] w word) words) (sym turn.1) later.1,
        later.2,
      )

  finished_same : (h : Held) → IsOld h → finished more h ≡ finished rules h
  finished_same h old =
      ap (λ (k : Held). fold with_default (with_default k.rows dir_here) rules) (settled_same h old)
      ∙ ap (λ rows. fold with_default rows rules) (no_default (settled rules h).rows)

  abbrev ends_well : Held → Bool
  ends_well h = settle_passes more false h && (list_all default_passes more && is_valid (leaf name more) (finished more h) false)

  -- the words pass with the new option, leave the same rows, and give it no value
  pub level_more : (words : List Text) → level_passes (leaf name rules) [] nothing_held words false ≡ true
      → (level_passes (leaf name more) [] nothing_held words false ≡ true) × (rows_after more [] words ≡ rows_after rules [] words) × (first_of dir (rows_after rules [] words) ≡ None)
  level_more words e =
      let h = (walk rules [] nothing_held words).held in
      let parts = both (walk_passes (leaf name rules) [] (walk_from nothing_held) words) _ e in
      let settles = both (settle_passes rules false h) _ parts.1 in
      let defaults = both (list_all default_passes rules) _ settles.1 in
      let same = walk_same (walk_from nothing_held) words (record { held = record { pending = refl; rows = refl }; waiting = tt }) parts.0 in
      let old : IsOld h = same.2.held in
      let finish = finished_same h old in
      let valid : is_valid (leaf name more) (finished more h) false ≡ true = subst (λ rows. is_valid (leaf name more) rows false ≡ true) (sym finish) defaults.1 in
      let well : ends_well h ≡ true = ap₂ ◌&&◌ (settle_same h old ∙ settles.0) (ap₂ ◌&&◌ defaults.0 valid) in (
        ap₂ ◌&&◌ same.0 (subst (λ (w : Walk). ends_well w.held ≡ true) (sym same.1) well),
        ap (λ (w : Walk). finished more w.held) same.1 ∙ finish,
        first_none (finished rules h) (defaults_none rules (settled rules h).rows own (settled_old h old).rows),
      )
