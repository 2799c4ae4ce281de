-- What was written, a count and then the rows, is the spelling of a map.
use Rattle.std.proofs.Common.{◌≡◌, ℕ, List, ◌++◌, length, sym, ap, ◌∙◌, append_assoc}
use Rattle.std.specs.Int.{w16, w32, w64}
use Rattle.std.specs.List.{flat_map}
use Rattle.std.specs.FinMap
use Rattle.std.specs.FinMap.{len-entries}
use Rattle.std.proofs.lemmas.List.{length-map}
use Rattle.pf_entry.specs.Maps.{Map, Numbers}
use Rattle.pf_entry.specs.Sets
use Rattle.pf_entry.specs.StartMaps.{start_rows}
use Rattle.pf_entry.specs.declared.tables.Start.{Start}
use Rattle.pf_codec.specs.Spelling.{number, start_bytes, starts_bytes, slots_bytes}

pub start_count : (rows : List Start) (starts : Map ℕ) → FinMap.entries starts ≡ start_rows rows → length rows ≡ FinMap.len starts
start_count rows starts are = sym (length-map rows (λ row. (row.term, row.first))) ∙ ap length (sym are) ∙ sym (len-entries starts)

pub starts_join : (w out : List ℕ) (rows : List Start) (starts : Map ℕ) → FinMap.entries starts ≡ start_rows rows → out ≡ w ++ number w16 (length rows) → out ++ flat_map start_bytes (start_rows rows) ≡ w ++ starts_bytes starts
unfolding starts_bytes
starts_join w out rows starts are out_is =
    ap (λ o. o ++ flat_map start_bytes (start_rows rows)) out_is ∙ append_assoc w (number w16 (length rows)) (flat_map start_bytes (start_rows rows))
    ∙ (λ i. w ++ (number w16 (start_count rows starts are i) ++ flat_map start_bytes (sym are i)))

pub slot_count : (slots : List ℕ) (set : Numbers) → Sets.items set ≡ slots → length slots ≡ Sets.len set
slot_count slots set are = ap length (sym are) ∙ length-map (FinMap.entries set) (λ e. e.0) ∙ sym (len-entries set)

pub slots_join : (w out slots : List ℕ) (set : Numbers) → Sets.items set ≡ slots → out ≡ w ++ number w32 (length slots) → out ++ flat_map (number w64) slots ≡ w ++ slots_bytes set
unfolding slots_bytes
slots_join w out slots set are out_is =
    ap (λ o. o ++ flat_map (number w64) slots) out_is ∙ append_assoc w (number w32 (length slots)) (flat_map (number w64) slots)
    ∙ (λ i. w ++ (number w32 (slot_count slots set are i) ++ flat_map (number w64) (sym are i)))
