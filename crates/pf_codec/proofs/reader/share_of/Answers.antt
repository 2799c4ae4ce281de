use Rattle.std.proofs.Common.{◌≡◌, ℕ, ◌++◌, List, [], Some, length, ap, sym, subst, ◌∙◌, arith}
use Rattle.std.specs.List.{flat_map}
use Rattle.std.specs.Option.{option_copied}
use Rattle.std.proofs.lemmas.Bool.{eqb-true}
use Rattle.std.proofs.lemmas.List.{nil_from_length}
use Rattle.pf_entry.specs.Lists.{Every}
use Rattle.pf_codec.specs.Parsers.{row_at}
use Rattle.pf_codec.specs.Reading.{sector_at}
use Rattle.pf_codec.specs.Tails.{tail_bytes}
use Rattle.pf_codec.proofs.SectorRows.{whole_found}
use Rattle.pf_codec.proofs.reader.share_of.Goals as goal

pub returns : goal.returns
returns c =
    let sectors = c.in-Some.payload.now in
    let none = nil_from_length c.args.rest.now (eqb-true _ _ (sym c.is_empty.ensures ∙ c.if-not-is_empty.false)) in
    let count : length sectors ≡ c.args.count = omega (arith, c.len.ensures.count, c.if-len-count.false) in
    let full : Every (λ bytes. length bytes ≡ 512) sectors = subst (Every (λ bytes. length bytes ≡ 512)) c.as_slice.ensures c.are_whole.ensures in
    let left : c.args.rest.now ++ tail_bytes (option_copied c.args.tail) ≡ flat_map (λ sector. sector) sectors =
    ap (λ front. front ++ tail_bytes (option_copied c.args.tail)) none ∙ ap (λ tail. tail_bytes (option_copied tail)) c.in-Some.is
    in
    ap (row_at sector_at c.args.count) left ∙ whole_found c.args.count sectors count full ∙ ap (λ (its : List (List ℕ)). Some (its, [])) (sym c.in_ok-share.ensures)
