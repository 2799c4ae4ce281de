-- Spellings have as many bytes as their sizes say.
use Rattle.std.proofs.Common.{◌≡◌, ℕ, ◌+◌, ◌*◌, ◌<◌, ◌≤◌, ◌^◌, lit≤, List, [], ◌∷◌, ◌++◌, length, refl, sym, ap, ◌∙◌, arith, length-append}
use Rattle.std.specs.Int.{w16, w32, w64}
use Rattle.std.specs.List.{flat_map, sum_by}
use Rattle.std.specs.FinMap
use Rattle.std.specs.FinMap.{len-entries}
use Rattle.std.proofs.lemmas.List.{length-map}
use Rattle.std.proofs.lemmas.List.Sums.{sum_by-cons}
use Rattle.pf_base.specs.Span.{Span}
use Rattle.pf_entry.specs.Maps.{Map, Numbers}
use Rattle.pf_entry.specs.Sets
use Rattle.pf_entry.specs.Lists.{Every}
use Rattle.pf_entry.proofs.Lists.{every_more}
use Rattle.pf_entry.specs.Sizes.{op_size, entry_size, entries_size, starts_size, slots_size, sectors_size, vote_size, payload_size, body_size}
use Rattle.pf_entry.specs.Canonical.{Bounds, second_format, IsCanonicalOp, IsCanonicalEntry, IsCanonicalVote, IsCanonicalFor}
use Rattle.pf_entry.specs.declared.ops.Op.{Op}
use Rattle.pf_entry.specs.declared.ops.Op.TheVariants.{Write, Noop, Mark}
use Rattle.pf_entry.specs.declared.entries.Named.{Named}
use Rattle.pf_entry.specs.declared.entries.Entry.{Entry}
use Rattle.pf_entry.specs.declared.entries.VoteLog.{VoteLog}
use Rattle.pf_entry.specs.declared.records.Record.{Record}
use Rattle.pf_entry.specs.declared.records.Record.TheVariants.{Image as ImageRecord, Term as TermRecord, Entry as EntryRecord, Merged as MergedRecord}
use Rattle.pf_codec.specs.Spelling.{number, byte, range_bytes, name_bytes, sectors_in_row, op_bytes, entry_bytes, entries_bytes, log_bytes, start_bytes, starts_bytes, slots_bytes, sectors_bytes, vote_bytes, payload_bytes, body_bytes}
use Rattle.pf_codec.proofs.MapLaws.{canonical_values}

pub len16 : (n : ℕ) → length (number w16 n) ≡ 2
unfolding number
len16 n = refl

pub len32 : (n : ℕ) → length (number w32 n) ≡ 4
unfolding number
len32 n = refl

pub len64 : (n : ℕ) → length (number w64 n) ≡ 8
unfolding number
len64 n = refl

module _ {X : Type 0} (s : X → List ℕ) where
  sum_of_lengths : (size : X → ℕ) (xs : List X) → Every (λ x. length (s x) ≡ size x) xs → length (flat_map s xs) ≡ sum_by size xs
  sum_of_lengths size [] each = refl
  sum_of_lengths size (x ∷ xs) each =
      let rest = sum_of_lengths size xs each.1 in
      let here = each.0 in
      length-append (s x) (flat_map s xs) ∙ (λ i. here i + rest i) ∙ sym (sum_by-cons size x xs)

  equal_lengths : (k : ℕ) (xs : List X) → Every (λ x. length (s x) ≡ k) xs → length (flat_map s xs) ≡ k * length xs
  equal_lengths k [] each = omega arith
  equal_lengths k (x ∷ xs) each =
      let rest = equal_lengths k xs each.1 in
      let here = each.0 in
      length-append (s x) (flat_map s xs) ∙ (λ i. here i + rest i) ∙ omega arith

  every_one : (P : X → Type 0) (xs : List X) → ((x : X) → P x) → Every P xs
  every_one P [] f = tt
  every_one P (x ∷ xs) f = (f x, every_one P xs f)

range_len : (span : Span) → length (range_bytes span) ≡ 5
unfolding range_bytes
range_len span = length-append (number w32 span.first) (byte span.count) ∙ ap (λ n. n + 1) (len32 span.first)

name_len : (n : Named) → length (name_bytes n) ≡ 13
unfolding name_bytes
name_len n = length-append (number w64 n.slot) (range_bytes n.range) ∙ (λ i. len64 n.slot i + range_len n.range i)

sectors_len : (sectors : List (List ℕ)) → Every (λ bytes. length bytes ≡ 512) sectors → length (sectors_in_row sectors) ≡ 512 * length sectors
sectors_len sectors each = equal_lengths (λ sector. sector) 512 sectors each

op_len : (bounds : Bounds) (op : Op) → IsCanonicalOp bounds op → length (op_bytes op) ≡ op_size op
unfolding op_bytes
op_len bounds (Write range payload) c =
    let sectors = sectors_len payload c.2 in
    let all = length-append (range_bytes range) (sectors_in_row payload) in
    omega (arith, all, range_len range, sectors)
op_len bounds Noop c = refl
op_len bounds Mark c = refl

pub op_most : (op : Op) → IsCanonicalOp second_format op → op_size op ≤ 4102
op_most (Write range payload) c = let few = c.0.few in let count = c.1 in omega (arith, few, count)
op_most Noop c = lit≤ tt
op_most Mark c = lit≤ tt

pub names_most : second_format.names ≤ 16
unfolding second_format
names_most = lit≤ tt

pub entry_len : (bounds : Bounds) (e : Entry) → IsCanonicalEntry bounds e → length (entry_bytes e) ≡ entry_size e
unfolding entry_bytes
entry_len bounds e c =
    let names : length (flat_map name_bytes e.look) ≡ 13 * length e.look = equal_lengths name_bytes 13 e.look (every_one name_bytes _ e.look name_len) in
    let op = op_len bounds e.op c.op in
    let tail = length-append (flat_map name_bytes e.look) (op_bytes e.op) in
    let three = length-append (number w64 e.first) (byte (length e.look) ++ (flat_map name_bytes e.look ++ op_bytes e.op)) in
    let two = length-append (number w64 e.term) (number w64 e.first ++ (byte (length e.look) ++ (flat_map name_bytes e.look ++ op_bytes e.op))) in
    let one = length-append (number w64 e.slot) (number w64 e.term ++ (number w64 e.first ++ (byte (length e.look) ++ (flat_map name_bytes e.look ++ op_bytes e.op)))) in
    omega (arith, names, op, tail, three, two, one, len64 e.slot, len64 e.term, len64 e.first)

entries_len : (bounds : Bounds) (es : List Entry) → Every (IsCanonicalEntry bounds) es → length (entries_bytes es) ≡ entries_size es
unfolding entries_bytes
entries_len bounds es each =
    let rest = sum_of_lengths entry_bytes entry_size es (every_more (IsCanonicalEntry bounds) (λ e. length (entry_bytes e) ≡ entry_size e) (entry_len bounds) es each) in
    length-append (number w32 (length es)) (flat_map entry_bytes es) ∙ (λ i. len32 (length es) i + rest i)

start_len : (row : ℕ × ℕ) → length (start_bytes row) ≡ 16
unfolding start_bytes
start_len row = length-append (number w64 row.0) (number w64 row.1) ∙ (λ i. len64 row.0 i + len64 row.1 i)

starts_len : (starts : Map ℕ) → length (starts_bytes starts) ≡ starts_size starts
unfolding starts_bytes
starts_len starts =
    let rows = equal_lengths start_bytes 16 (FinMap.entries starts) (every_one start_bytes _ (FinMap.entries starts) start_len) in
    let all = length-append (number w16 (FinMap.len starts)) (flat_map start_bytes (FinMap.entries starts)) in
    omega (arith, rows, all, len16 (FinMap.len starts), len-entries starts)

pub slots_len : (slots : Numbers) → length (slots_bytes slots) ≡ slots_size slots
unfolding slots_bytes
slots_len slots =
    let rows = equal_lengths (number w64) 8 (Sets.items slots) (every_one (number w64) _ (Sets.items slots) len64) in
    let all = length-append (number w32 (Sets.len slots)) (flat_map (number w64) (Sets.items slots)) in
    omega (arith, rows, all, len32 (Sets.len slots), len-entries slots, length-map (FinMap.entries slots) (λ e. e.0))

pub image_sectors_len : (sectors : List (List ℕ)) → Every (λ bytes. length bytes ≡ 512) sectors → length (sectors_bytes sectors) ≡ sectors_size sectors
unfolding sectors_bytes
image_sectors_len sectors each =
    let all = length-append (number w32 (length sectors)) (sectors_in_row sectors) in
    omega (arith, all, sectors_len sectors each, len32 (length sectors))

module _ (bounds : Bounds) (window : bounds.window < 2 ^ 32) where
  log_len_of : (v : VoteLog) → IsCanonicalVote bounds v → length (log_bytes v.log) ≡ entries_size (FinMap.values v.log)
  log_len_of v c = entries_len bounds (FinMap.values v.log) (canonical_values bounds window v.base v.log c.entries)

  pub vote_len : (v : VoteLog) → IsCanonicalVote bounds v → length (vote_bytes v) ≡ vote_size v
  unfolding vote_bytes
  vote_len v c =
      let two = length-append (starts_bytes v.starts) (log_bytes v.log) in
      let one = length-append (number w64 v.base) (starts_bytes v.starts ++ log_bytes v.log) in
      omega (arith, one, two, len64 v.base, starts_len v.starts, log_len_of v c)

  pub payload_len : (r : Record) → IsCanonicalFor bounds r → length (payload_bytes r) ≡ payload_size r
  unfolding payload_bytes
  payload_len (ImageRecord generation term vote applied sectors) c =
      let six = length-append (log_bytes vote.log) (sectors_bytes sectors) in
      let five = length-append (slots_bytes applied) (log_bytes vote.log ++ sectors_bytes sectors) in
      let four = length-append (starts_bytes vote.starts) (slots_bytes applied ++ (log_bytes vote.log ++ sectors_bytes sectors)) in
      let three = length-append (number w64 vote.base) (starts_bytes vote.starts ++ (slots_bytes applied ++ (log_bytes vote.log ++ sectors_bytes sectors))) in
      let two = length-append (number w64 term) (number w64 vote.base ++ (starts_bytes vote.starts ++ (slots_bytes applied ++ (log_bytes vote.log ++ sectors_bytes sectors)))) in
      let one = length-append (number w64 generation) (number w64 term ++ (number w64 vote.base ++ (starts_bytes vote.starts ++ (slots_bytes applied ++ (log_bytes vote.log ++ sectors_bytes sectors))))) in
      omega (arith, one, two, three, four, five, six, len64 generation, len64 term, len64 vote.base, starts_len vote.starts, slots_len applied, log_len_of vote c.0, image_sectors_len sectors c.1.bytes)
  payload_len (TermRecord term) c = len64 term
  payload_len (EntryRecord e) c = entry_len bounds e c
  payload_len (MergedRecord term first es) c =
      let two = length-append (number w64 first) (entries_bytes es) in
      let one = length-append (number w64 term) (number w64 first ++ entries_bytes es) in
      omega (arith, one, two, len64 term, len64 first, entries_len bounds es c)

  pub body_len : (r : Record) → IsCanonicalFor bounds r → length (body_bytes r) ≡ body_size r
  unfolding body_bytes body_size
  body_len r c =
      let two = length-append (payload_bytes r) (byte 0) in
      let one = length-append (number w32 (payload_size r)) (payload_bytes r ++ byte 0) in
      omega (arith, one, two, len32 (payload_size r), payload_len r c)
