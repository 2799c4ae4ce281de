-- Every generated script is accepted.
use Rattle.std.proofs.Common.{◌≡◌, ℕ, zero, suc, ◌+◌, ◌*◌, ◌-◌, ◌/◌, ◌%◌, ◌^◌, ◌<◌, ◌≤◌, ◌==◌, nat_lt, nat_le, Bool, true, false, not, ◌&&◌, ◌||◌, cond, List, [], ◌∷◌, ◌++◌, length, Option, Some, None, Result, Ok, Err, refl, ap, sym, subst, ◌∙◌, arith, append_assoc, append-nil, length-append, add-one, take, codes, true≢false}
use Rattle.std.specs.Prelude.{filter, slice_index}
use Rattle.std.specs.List.{list_all, onto_first, slice_split}
use Rattle.std.specs.Fmt.{decimal, digits}
use Rattle.hex.specs.Hex.{encode_lower, encode_with}
use Rattle.std.proofs.lemmas.Bool.{eqb-true}
use Rattle.std.proofs.lemmas.Bool.Decides.{nat_tests}
use Rattle.std.proofs.lemmas.List.Sums.{sum_by-append}
use Rattle.clap.proofs.WalkLemmas.{both}
use Rattle.pf_text.specs.Numbers.{decimal_number, hex_number}
use Rattle.pf_entry.proofs.Cases.{by_test}
use Rattle.pf_script.specs.declared.command.Command.{Command}
use Rattle.pf_script.specs.declared.command.Command.TheVariants as commands
use Rattle.pf_script.specs.declared.command.LineFault.{LineFault}
use Rattle.pf_script.specs.declared.command.LineFault.TheVariants.{LineTooLong, OutOfRange, TooManyLines}
use Rattle.pf_gen.specs.Draws as draws
use Rattle.pf_gen.specs.Draws.{count, group, kind, sector, server}
use Rattle.pf_gen.specs.Lines.{drawn_line, drawn_text, server_words, submit_text, with_line_feed as fed_with}
use Rattle.pf_gen.specs.Generated.{closing, drawn_lines, generated, first_line}
use Rattle.pf_gen.proofs.NextNumbers.{drawn_more, drawn_none}
use Rattle.pf_script.specs.declared.named.NamedVolume.{NamedVolume}
use Rattle.pf_script.specs.Lines.{command_of, first_named, fits, is_server, said_by_line, placed, server_command, volume_after}
use Rattle.pf_script.specs.declared.form.Form.{Form}
use Rattle.pf_script.specs.declared.form.Form.TheVariants as forms
use Rattle.pf_script.specs.declared.form.ServerVerb.{ServerVerb}
use Rattle.pf_script.specs.declared.form.ServerVerb.TheVariants.{Elect, Resend, Restart, Stop}
use Rattle.pf_script.specs.Forms.{◌>>=◌, server_form}
use Rattle.pf_script.specs.Values.{byte_value, number_value}
use Rattle.pf_text.specs.Words.{is_blank, is_word, trimmed, words_of}
use Rattle.pf_world.specs.declared.line.Line.{Line}
use Rattle.pf_run_lines.specs.LineScans.{Open, Scanned, fed, fed_all, fed_line, Refused, is_feed, is_line_over, close, over_fault, read_line, said_list, scan}
use Rattle.pf_run.specs.Scripts.{line_numbered, numbered_line, script_rules}
use Rattle.pf_world.specs.Headline.{is_live, live_lines}
use Rattle.pf_run.specs.Generating.{IsAccepted, generated_lines}
use Rattle.pf_run.specs.Reports.{judged_lines}
use Rattle.pf_run_lines.proofs.TextBytes.{scan_append, scan_none}

-- ---- lines of plain words

-- no byte of it ends a word, a line, or the return before that
abbrev is_plain_byte : ℕ → Bool
is_plain_byte b = not (is_blank b) && (not (is_feed b) && not (b == 13))

-- a short word of such bytes
abbrev is_plain : List ℕ → Bool
is_plain word = is_word word && (nat_le (length word) 8 && list_all is_plain_byte word)

-- words with a space between each two
abbrev joined : List ℕ → List (List ℕ) → List ℕ
joined word [] = word
joined word (next ∷ words) = word ++ 32 ∷ joined next words

not_true : (b : Bool) → not b ≡ true → b ≡ false
not_true false e = refl
not_true true e = sym e

plain_byte : (b : ℕ) → is_plain_byte b ≡ true → (is_blank b ≡ false) × (is_feed b ≡ false) × ((b == 13) ≡ false)
plain_byte b e =
    let first = both (not (is_blank b)) _ e in
    let second = both (not (is_feed b)) _ first.1 in
    (not_true (is_blank b) first.0, not_true (is_feed b) second.0, not_true (b == 13) second.1)

split_word : (word rest : List ℕ) → list_all is_plain_byte word ≡ true → slice_split is_blank (word ++ 32 ∷ rest) ≡ word ∷ slice_split is_blank rest
split_word [] rest e = refl
split_word (b ∷ word) rest e =
    let parts = both (is_plain_byte b) (list_all is_plain_byte word) e in
    ap (λ t. cond t ([] ∷ slice_split is_blank (word ++ 32 ∷ rest)) (onto_first b (slice_split is_blank (word ++ 32 ∷ rest)))) (plain_byte b parts.0).0
    ∙ ap (onto_first b) (split_word word rest parts.1)

split_last : (word : List ℕ) → list_all is_plain_byte word ≡ true → slice_split is_blank word ≡ word ∷ []
split_last [] e = refl
split_last (b ∷ word) e =
    let parts = both (is_plain_byte b) (list_all is_plain_byte word) e in
    ap (λ t. cond t ([] ∷ slice_split is_blank word) (onto_first b (slice_split is_blank word))) (plain_byte b parts.0).0
    ∙ ap (onto_first b) (split_last word parts.1)

words_joined : (word : List ℕ) (words : List (List ℕ)) → is_plain word ≡ true → list_all is_plain words ≡ true → words_of (joined word words) ≡ word ∷ words
words_joined word [] e all =
    let parts = both (is_word word) _ e in
    ap (filter is_word) (split_last word (both (nat_le (length word) 8) _ parts.1).1) ∙ ap (λ b. cond b (word ∷ []) []) parts.0
words_joined word (next ∷ words) e all =
    let parts = both (is_word word) _ e in
    let rest = both (is_plain next) (list_all is_plain words) all in
    ap (filter is_word) (split_word word (joined next words) (both (nat_le (length word) 8) _ parts.1).1)
    ∙ ap (λ b. cond b (word ∷ words_of (joined next words)) (words_of (joined next words))) parts.0
    ∙ ap (λ ws. word ∷ ws) (words_joined next words rest.0 rest.1)

-- no byte ends the line, and none is a return
abbrev is_inner : ℕ → Bool
is_inner b = not (is_feed b) && not (b == 13)

inner_word : (word : List ℕ) → list_all is_plain_byte word ≡ true → list_all is_inner word ≡ true
inner_word [] e = refl
inner_word (b ∷ word) e =
    let parts = both (is_plain_byte b) (list_all is_plain_byte word) e in
    let inner = (both (not (is_blank b)) (is_inner b) parts.0).1 in
    ap (λ t. t && list_all is_inner word) inner ∙ inner_word word parts.1

inner_both : (xs ys : List ℕ) → list_all is_inner xs ≡ true → list_all is_inner ys ≡ true → list_all is_inner (xs ++ ys) ≡ true
inner_both [] ys e all = all
inner_both (x ∷ xs) ys e all = let parts = both (is_inner x) (list_all is_inner xs) e in ap (λ t. t && list_all is_inner (xs ++ ys)) parts.0 ∙ inner_both xs ys parts.1 all

inner_joined : (word : List ℕ) (words : List (List ℕ)) → is_plain word ≡ true → list_all is_plain words ≡ true → list_all is_inner (joined word words) ≡ true
inner_joined word [] e all = inner_word word (both (nat_le (length word) 8) _ (both (is_word word) _ e).1).1
inner_joined word (next ∷ words) e all =
    let rest = both (is_plain next) (list_all is_plain words) all in
    inner_both word (32 ∷ joined next words) (inner_word word (both (nat_le (length word) 8) _ (both (is_word word) _ e).1).1) (inner_joined next words rest.0 rest.1)

length_joined : (word : List ℕ) (words : List (List ℕ)) → is_plain word ≡ true → list_all is_plain words ≡ true → length (joined word words) ≤ 9 * length words + 8
length_joined word [] e all = let short = (both (nat_le (length word) 8) _ (both (is_word word) _ e).1).0 in grind (arith, nat_tests)
length_joined word (next ∷ words) e all =
    let short = (both (nat_le (length word) 8) _ (both (is_word word) _ e).1).0 in
    let low : length word ≤ 8 = grind (arith, nat_tests) in
    let rest = both (is_plain next) (list_all is_plain words) all in
    omega (arith, low, length-append word (32 ∷ joined next words), length_joined next words rest.0 rest.1)

no_return : (bytes : List ℕ) (k : ℕ) → list_all is_inner bytes ≡ true → (slice_index bytes k == 13) ≡ false
no_return [] k e = refl
no_return (b ∷ bytes) zero e = not_true (b == 13) (both (not (is_feed b)) _ (both (is_inner b) (list_all is_inner bytes) e).0).1
no_return (b ∷ bytes) (suc k) e = no_return bytes k (both (is_inner b) (list_all is_inner bytes) e).1

-- ---- how they are fed

fed_both : (s : Scanned (Option NamedVolume) Line) (xs ys : List ℕ) → fed_all script_rules s (xs ++ ys) ≡ fed_all script_rules (fed_all script_rules s xs) ys
fed_both s [] ys = refl
fed_both s (x ∷ xs) ys = fed_both (fed script_rules s x) xs ys

fed_inner : (lines : List Line) (n : ℕ) (v : Option NamedVolume) (begun bytes : List ℕ) → n ≤ 100000 → length begun + length bytes ≤ 1024 → list_all is_inner bytes ≡ true → fed_all script_rules (Open lines n v begun) bytes ≡ Open lines n v (begun ++ bytes)
fed_inner lines n v begun [] few short e = ap (Open lines n v) (sym (append-nil begun))
fed_inner lines n v begun (b ∷ bytes) few short e =
    let parts = both (is_inner b) (list_all is_inner bytes) e in
    let more = length-append begun (b ∷ []) in
    let within : is_line_over n (begun ++ b ∷ []) ≡ false = not_over n (length (begun ++ b ∷ [])) few (omega (arith, more, short)) in
    let one : fed script_rules (Open lines n v begun) b ≡ Open lines n v (begun ++ b ∷ []) =
    ap (λ t. cond t (fed_line script_rules lines n v (read_line script_rules n v begun)) (cond (is_line_over n (begun ++ b ∷ [])) (over_at n) (Open lines n v (begun ++ b ∷ [])))) (not_true (is_feed b) (both (not (is_feed b)) _ parts.0).0)
    ∙ ap (λ t. cond t (over_at n) (Open lines n v (begun ++ b ∷ []))) within in
    ap (λ s. fed_all script_rules s bytes) one ∙ fed_inner lines n v (begun ++ b ∷ []) bytes few (omega (arith, more, short)) parts.1 ∙ ap (Open lines n v) (append_assoc begun (b ∷ []) bytes)
  where
    not_over : (n length : ℕ) → n ≤ 100000 → length ≤ 1024 → ((nat_lt 100000 n && nat_lt 0 length) || nat_lt 1024 length) ≡ false
    not_over n length few short = grind (arith, nat_tests)

    over_at : ℕ → Scanned (Option NamedVolume) Line
    over_at n = Refused n (over_fault n)

-- what a line of plain words says
read_joined : (n : ℕ) (v : Option NamedVolume) (word : List ℕ) (words : List (List ℕ)) → n ≤ 100000 → length words ≤ 100 → is_plain word ≡ true → list_all is_plain words ≡ true → read_line script_rules n v (joined word words) ≡ numbered_line n (command_of v (word ∷ words))
read_joined n v word words few small e all =
    let text = joined word words in
    let short = length_joined word words e all in
    let low : nat_lt 100000 n ≡ false = grind (arith, nat_tests) in
    let fits : nat_lt 1024 (length text) ≡ false = fits_in (length text) (omega (arith, short, small)) in
    let whole : trimmed text ≡ text = ap (λ t. cond t (take (length text - 1) text) text) (no_return text (length text - 1) (inner_joined word words e all)) in
    ap (λ t. cond t (Err TooManyLines) (cond (nat_lt 1024 (length text)) (Err LineTooLong) (numbered_line n (said_by_line v text)))) low
    ∙ ap (λ t. cond t (Err LineTooLong) (numbered_line n (said_by_line v text))) fits
    ∙ ap (λ t. numbered_line n (cond t (Err LineTooLong) (command_of v (words_of (trimmed text))))) fits
    ∙ ap (λ line. numbered_line n (command_of v (words_of line))) whole
    ∙ ap (λ ws. numbered_line n (command_of v ws)) (words_joined word words e all)
  where
    fits_in : (length : ℕ) → length ≤ 1024 → nat_lt 1024 length ≡ false
    fits_in length low = grind (arith, nat_tests)

pub fed_joined : (lines : List Line) (n : ℕ) (v : Option NamedVolume) (word : List ℕ) (words : List (List ℕ)) → n ≤ 100000 → length words ≤ 100 → is_plain word ≡ true → list_all is_plain words ≡ true
    → fed_all script_rules (Open lines n v []) (joined word words ++ 10 ∷ []) ≡ fed_line script_rules lines n v (numbered_line n (command_of v (word ∷ words)))
fed_joined lines n v word words few small e all =
    let text = joined word words in
    let short = length_joined word words e all in
    fed_both (Open lines n v []) text (10 ∷ [])
    ∙ ap (λ s. fed script_rules s 10) (fed_inner lines n v [] text few (omega (arith, short, small)) (inner_joined word words e all))
    ∙ ap (fed_line script_rules lines n v) (read_joined n v word words few small e all)

-- ---- words of small numbers

abbrev below : (ℕ → Bool) → ℕ → Bool
below p zero = true
below p (suc n) = p n && below p n

below_at : (p : ℕ → Bool) (m n : ℕ) → n < m → below p m ≡ true → p n ≡ true
below_at p zero n low all = absurd (omega (arith, low))
below_at p (suc m) n low all =
    let parts = both (p m) (below p m) all in
    by_test (n == m) (λ _. p n ≡ true) (λ same. ap p (eqb-true n m same) ∙ parts.0) (λ other. below_at p m n (less n m low other) parts.1)
  where
    less : (n m : ℕ) → n < suc m → (n == m) ≡ false → n < m
    less n m low other = grind (arith, nat_tests)

abbrev spells : Result ℕ LineFault → ℕ → Bool
spells (Ok k) n = k == n
spells (Err fault) n = false

spelled_as : (r : Result ℕ LineFault) (n : ℕ) → spells r n ≡ true → r ≡ Ok n
spelled_as (Ok k) n e = ap Ok (eqb-true k n e)
spelled_as (Err fault) n e = absurd (true≢false (sym e))

abbrev decimal_fits : ℕ → Bool
decimal_fits n = spells (number_value (decimal n)) n && is_plain (decimal n)

decimals_fit : below decimal_fits 64 ≡ true
unfolding decimal_number digits
decimals_fit = refl

number_is : (n : ℕ) → n < 64 → (number_value (decimal n) ≡ Ok n) × (is_plain (decimal n) ≡ true)
number_is n low =
    let parts = both (spells (number_value (decimal n)) n) (is_plain (decimal n)) (below_at decimal_fits 64 n low decimals_fit) in
    (spelled_as (number_value (decimal n)) n parts.0, parts.1)

abbrev byte_fits : ℕ → Bool
byte_fits b = spells (byte_value (encode_lower (b ∷ []))) b && is_plain (encode_lower (b ∷ []))

bytes_fit : below byte_fits 256 ≡ true
unfolding hex_number encode_with
bytes_fit = refl

byte_is : (b : ℕ) → b < 256 → (byte_value (encode_lower (b ∷ [])) ≡ Ok b) × (is_plain (encode_lower (b ∷ [])) ≡ true)
byte_is b low =
    let parts = both (spells (byte_value (encode_lower (b ∷ []))) b) (is_plain (encode_lower (b ∷ []))) (below_at byte_fits 256 b low bytes_fit) in
    (spelled_as (byte_value (encode_lower (b ∷ []))) b parts.0, parts.1)

-- ---- the lines that are drawn

abbrev two : NamedVolume
two = first_named 2

-- plain words that say a command, behind a volume of two chunks
record IsLine (text : List ℕ) : Type 0 where
  word : List ℕ
  words : List (List ℕ)
  text_is : text ≡ joined word words
  few : length words ≤ 100
  plain : is_plain word ≡ true
  plains : list_all is_plain words ≡ true
  command : Command
  says : command_of (Some two) (word ∷ words) ≡ Ok (Some command)
  stays : volume_after (Some two) (Some command) ≡ Some two
  alone : is_live command ≡ false

abbrev placing : Form → Result (Option Command) LineFault
placing form = placed (Some two) form >>= λ command. Ok (Some command)

mod_2 : (n : ℕ) → n % 2 < 2
mod_2 n = omega arith

mod_3 : (n : ℕ) → n % 3 < 3
mod_3 n = omega arith

mod_8 : (n : ℕ) → n % 8 < 8
mod_8 n = omega arith

mod_57 : (n : ℕ) → n % 57 < 57
mod_57 n = omega arith

mod_256 : (n : ℕ) → n % 256 < 256
mod_256 n = omega arith

is_here : (g i : ℕ) → g < 2 → i < 3 → is_server 2 g i ≡ true
is_here g i low few = grind (arith, nat_tests)

server_says : (verb : ServerVerb) (g i : ℕ) (dg di : List ℕ) → number_value dg ≡ Ok g → number_value di ≡ Ok i → fits two (server_command verb g i) ≡ true → (server_form verb (dg ∷ di ∷ []) >>= placing) ≡ Ok (Some (server_command verb g i))
server_says verb g i dg di eg ei here =
    ap (λ r. (r >>= λ k. number_value di >>= λ j. Ok (forms.OfServer verb k j)) >>= placing) eg
    ∙ ap (λ r. (r >>= λ j. Ok (forms.OfServer verb g j)) >>= placing) ei
    ∙ ap (λ b. cond b (Ok (server_command verb g i)) (Err OutOfRange) >>= λ command. Ok (Some command)) here

-- a text that grows word by word is that of the words
spread : (word a b c d e : List ℕ) → ((((word ++ 32 ∷ a) ++ 32 ∷ b) ++ 32 ∷ c) ++ 32 ∷ d) ++ 32 ∷ e ≡ joined word (a ∷ b ∷ c ∷ d ∷ e ∷ [])
spread word a b c d e =
    append_assoc (((word ++ 32 ∷ a) ++ 32 ∷ b) ++ 32 ∷ c) (32 ∷ d) (32 ∷ e)
    ∙ append_assoc ((word ++ 32 ∷ a) ++ 32 ∷ b) (32 ∷ c) (32 ∷ (d ++ 32 ∷ e))
    ∙ append_assoc (word ++ 32 ∷ a) (32 ∷ b) (32 ∷ (c ++ 32 ∷ (d ++ 32 ∷ e)))
    ∙ append_assoc word (32 ∷ a) (32 ∷ (b ++ 32 ∷ (c ++ 32 ∷ (d ++ 32 ∷ e))))

server_line : (word : List ℕ) (verb : ServerVerb) (x : ℕ) → is_plain word ≡ true → ((words : List (List ℕ)) → command_of (Some two) (word ∷ words) ≡ (server_form verb words >>= placing)) → fits two (server_command verb (group x) (server x)) ≡ true
    → volume_after (Some two) (Some (server_command verb (group x) (server x))) ≡ Some two → is_live (server_command verb (group x) (server x)) ≡ false → IsLine (server_words word x)
server_line word verb x plain says here stays alone =
    let g = number_is (group x) (omega (arith, mod_2 (x / 2 ^ 36))) in
    let i = number_is (server x) (omega (arith, mod_3 (x / 2 ^ 40))) in
    record {
      word = word;
      words = decimal (group x) ∷ decimal (server x) ∷ [];
      text_is = append_assoc word (32 ∷ decimal (group x)) (32 ∷ decimal (server x));
      few = omega arith;
      plain = plain;
      plains = ap (λ b. b && (is_plain (decimal (server x)) && true)) g.1 ∙ ap (λ b. b && true) i.1;
      command = server_command verb (group x) (server x);
      says = says (decimal (group x) ∷ decimal (server x) ∷ []) ∙ server_says verb (group x) (server x) (decimal (group x)) (decimal (server x)) g.0 i.0 here;
      stays = stays;
      alone = alone;
    }

here_of : (x : ℕ) → is_server 2 (group x) (server x) ≡ true
here_of x = is_here (group x) (server x) (mod_2 (x / 2 ^ 36)) (mod_3 (x / 2 ^ 40))

submit_says : (g i s b c : ℕ) (dg di ds hb dc : List ℕ) → number_value dg ≡ Ok g → number_value di ≡ Ok i → number_value ds ≡ Ok s → byte_value hb ≡ Ok b → number_value dc ≡ Ok c → fits two (commands.Submit g i s b c) ≡ true
    → command_of (Some two) (codes "submit" ∷ dg ∷ di ∷ ds ∷ hb ∷ dc ∷ []) ≡ Ok (Some (commands.Submit g i s b c))
submit_says g i s b c dg di ds hb dc eg ei es eb ec here =
    ap (λ r. (r >>= λ g. number_value di >>= λ i. number_value ds >>= λ s. byte_value hb >>= λ b. number_value dc >>= λ c. Ok (forms.Submit g i s b c)) >>= placing) eg
    ∙ ap (λ r. (r >>= λ i. number_value ds >>= λ s. byte_value hb >>= λ b. number_value dc >>= λ c. Ok (forms.Submit g i s b c)) >>= placing) ei
    ∙ ap (λ r. (r >>= λ s. byte_value hb >>= λ b. number_value dc >>= λ c. Ok (forms.Submit g i s b c)) >>= placing) es
    ∙ ap (λ r. (r >>= λ b. number_value dc >>= λ c. Ok (forms.Submit g i s b c)) >>= placing) eb
    ∙ ap (λ r. (r >>= λ c. Ok (forms.Submit g i s b c)) >>= placing) ec
    ∙ ap (λ t. cond t (Ok (commands.Submit g i s b c)) (Err OutOfRange) >>= λ command. Ok (Some command)) here

submit_fits : (g i s c : ℕ) → g < 2 → i < 3 → s < 57 → c < 64 → (is_server 2 g i && nat_lt s 65536 && nat_lt c 65536) ≡ true
submit_fits g i s c low few near small = grind (arith, nat_tests)

and_all : (a b c d e : Bool) → a ≡ true → b ≡ true → c ≡ true → d ≡ true → e ≡ true → (a && (b && (c && (d && (e && true))))) ≡ true
and_all true true true true true p q r s t = refl
and_all false b c d e p q r s t = p
and_all true false c d e p q r s t = q
and_all true true false d e p q r s t = r
and_all true true true false e p q r s t = s
and_all true true true true false p q r s t = t

submit_line : (x : ℕ) → IsLine (submit_text x)
submit_line x =
    let few = mod_8 (x / 2 ^ 52) in
    let near = mod_57 (x / 2 ^ 44) in
    let g = number_is (group x) (omega (arith, mod_2 (x / 2 ^ 36))) in
    let i = number_is (server x) (omega (arith, mod_3 (x / 2 ^ 40))) in
    let s = number_is (sector x) (omega (arith, near)) in
    let b = byte_is (draws.byte_drawn x) (mod_256 (x / 2 ^ 56)) in
    let c = number_is (count x) (omega (arith, few)) in
    let dg = decimal (group x) in
    let di = decimal (server x) in
    let ds = decimal (sector x) in
    let hb = encode_lower (draws.byte_drawn x ∷ []) in
    let dc = decimal (count x) in
    record {
      word = codes "submit";
      words = dg ∷ di ∷ ds ∷ hb ∷ dc ∷ [];
      text_is = spread (codes "submit") dg di ds hb dc;
      few = omega arith;
      plain = refl;
      plains = and_all (is_plain dg) (is_plain di) (is_plain ds) (is_plain hb) (is_plain dc) g.1 i.1 s.1 b.1 c.1;
      command = commands.Submit (group x) (server x) (sector x) (draws.byte_drawn x) (count x);
      says = submit_says (group x) (server x) (sector x) (draws.byte_drawn x) (count x) dg di ds hb dc g.0 i.0 s.0 b.0 c.0
          (submit_fits (group x) (server x) (sector x) (count x) (mod_2 (x / 2 ^ 36)) (mod_3 (x / 2 ^ 40)) near (omega (arith, few)));
      stays = refl;
      alone = refl;
    }

settle_line : IsLine (codes "settle 20")
unfolding decimal_number
settle_line = record { word = codes "settle"; words = codes "20" ∷ []; text_is = refl; few = omega arith; plain = refl; plains = refl; command = commands.Settle 20; says = refl; stays = refl; alone = refl }

one_of_two : {t e : List ℕ} (b : Bool) → IsLine t → IsLine e → IsLine (cond b t e)
one_of_two true first second = first
one_of_two false first second = second

drawn : (x : ℕ) → IsLine (drawn_text x)
drawn x =
    one_of_two (nat_lt (kind x) 9) (submit_line x)
    (one_of_two (nat_lt (kind x) 12) settle_line
    (one_of_two (kind x == 12) (server_line (codes "resend") Resend x refl (λ words. refl) (here_of x) refl refl)
    (one_of_two (kind x == 13) (server_line (codes "stop") Stop x refl (λ words. refl) (here_of x) refl refl)
    (one_of_two (kind x == 14) (server_line (codes "restart") Restart x refl (λ words. refl) (here_of x) refl refl)
    (server_line (codes "elect") Elect x refl (λ words. refl) (here_of x) refl refl)))))

-- ---- the whole script

-- so many lines were read, of a volume of two chunks and without threads
record HasRead (n : ℕ) (s : Scanned (Option NamedVolume) Line) : Type 0 where
  lines : List Line
  is : s ≡ Open lines n (Some two) []
  count : length lines + 1 ≡ n
  none : live_lines lines ≡ 0

more_read : (s : Scanned (Option NamedVolume) Line) (n : ℕ) (text : List ℕ) → HasRead n s → n ≤ 100000 → IsLine text → HasRead (n + 1) (fed_all script_rules s (fed_with text))
more_read s n text read few line = record {
  lines = read.lines ++ said_list (line_numbered n (Some line.command));
  is = ap (λ t. fed_all script_rules t (fed_with text)) read.is
      ∙ ap (λ bytes. fed_all script_rules (Open read.lines n (Some two) []) (fed_with bytes)) line.text_is
      ∙ fed_joined read.lines n (Some two) line.word line.words few line.few line.plain line.plains
      ∙ ap (λ r. fed_line script_rules read.lines n (Some two) (numbered_line n r)) line.says
      ∙ ap (λ v. Open (read.lines ++ said_list (line_numbered n (Some line.command))) (n + 1) v []) line.stays;
  count = omega (arith, read.count, length-append read.lines (said_list (line_numbered n (Some line.command))));
  none = omega (arith, read.none, sum_by-append (λ (l : Line). cond (is_live l.command) 1 0) read.lines (said_list (line_numbered n (Some line.command))), ap {B = ℕ} (λ b. cond b 1 0) line.alone);
}

drawn_read : (s : Scanned (Option NamedVolume) Line) (first k : ℕ) → HasRead 2 s → k ≤ 2000 → HasRead (k + 2) (fed_all script_rules s (drawn_lines first k))
drawn_read s first zero read few = subst (λ bytes. HasRead 2 (fed_all script_rules s bytes)) (sym (drawn_none first)) read
drawn_read s first (suc k) read few =
    let before = drawn_read s first k read (omega (arith, few)) in
    let line = draws.number first (k + 1) in
    let after = more_read (fed_all script_rules s (drawn_lines first k)) (k + 2) (drawn_text line) before (omega (arith, few)) (drawn line) in
    let bytes : drawn_lines first k ++ drawn_line line ≡ drawn_lines first (suc k) = sym (drawn_more first k) ∙ ap (drawn_lines first) (add-one k) in
    let one : k + 2 + 1 ≡ suc k + 2 = omega arith in
    subst (λ n. HasRead n (fed_all script_rules s (drawn_lines first (suc k)))) one
    (subst (λ all. HasRead (k + 2 + 1) (fed_all script_rules s all)) bytes (subst (HasRead (k + 2 + 1)) (sym (fed_both s (drawn_lines first k) (drawn_line line))) after))

opened : HasRead 2 (fed_all script_rules (scan script_rules None []) first_line)
unfolding decimal_number
opened = record {
  lines = record { number = 1; command = commands.Volume 2 64 2 2 } ∷ [];
  is = ap (λ s. fed_all script_rules s first_line) (scan_none script_rules None) ∙ fed_joined [] 1 None (codes "volume") (codes "2" ∷ codes "64" ∷ []) (omega arith) (omega arith) refl refl;
  count = refl;
  none = refl;
}

last_lines : IsLine (codes "settle 100000") × IsLine (codes "show acked 0") × IsLine (codes "show acked 1")
unfolding decimal_number
last_lines = (
  record { word = codes "settle"; words = codes "100000" ∷ []; text_is = refl; few = omega arith; plain = refl; plains = refl; command = commands.Settle 100000; says = refl; stays = refl; alone = refl },
  record { word = codes "show"; words = codes "acked" ∷ codes "0" ∷ []; text_is = refl; few = omega arith; plain = refl; plains = refl; command = commands.ShowAcked 0; says = refl; stays = refl; alone = refl },
  record { word = codes "show"; words = codes "acked" ∷ codes "1" ∷ []; text_is = refl; few = omega arith; plain = refl; plains = refl; command = commands.ShowAcked 1; says = refl; stays = refl; alone = refl },
)

all_read : (first : ℕ) → HasRead 2005 (scan script_rules None (generated first))
all_read first =
    let middle = drawn_read (fed_all script_rules (scan script_rules None []) first_line) first 2000 opened (omega arith) in
    let settled = more_read _ 2002 (codes "settle 100000") middle (omega arith) last_lines.0 in
    let shown = more_read _ 2003 (codes "show acked 0") settled (omega arith) last_lines.1 in
    let end = more_read _ 2004 (codes "show acked 1") shown (omega arith) last_lines.2 in
    let fed : fed_all script_rules (fed_all script_rules (fed_all script_rules (scan script_rules None []) first_line) (drawn_lines first 2000)) closing ≡ scan script_rules None (generated first) =
    sym (scan_append script_rules None [] (generated first) ∙ fed_both (scan script_rules None []) first_line (drawn_lines first 2000 ++ closing) ∙ fed_both (fed_all script_rules (scan script_rules None []) first_line) (drawn_lines first 2000) closing) in
    subst (HasRead 2005) fed end

-- the script of a number is accepted, with its 2,004 lines
pub generated_is_accepted : (number : ℕ) → IsAccepted number
generated_is_accepted number = let read = all_read number in (read.lines, ap (close script_rules) read.is, omega (arith, read.count))

-- and no line of it is one of threads
pub none_are_live : (number : ℕ) → live_lines (generated_lines number) ≡ 0
none_are_live number = let read = all_read number in ap (λ r. live_lines (judged_lines r)) (ap (close script_rules) read.is) ∙ read.none
