-- Entries under their slots, and how such values are told apart.
use Rattle.std.specs.Prelude.{ℕ, List, map, Option, Some, None, refl, ◌≡◌}
use Rattle.std.specs.Coded.{Coded, code_by, coded×, coded_ℕ, coded_list, coded_option}
use Rattle.std.specs.FinMap
use Rattle.pf_base.specs.Span.{Span}
use Rattle.pf_entry.specs.Maps.{Map}
use Rattle.pf_entry.specs.declared.ops.Op.{Op}
use Rattle.pf_entry.specs.declared.ops.Op.TheVariants.{Write, Noop, Mark}
use Rattle.pf_entry.specs.declared.entries.Named.{Named}
use Rattle.pf_entry.specs.declared.entries.Entry.{Entry}

abbrev pub slots_in : List Entry → List ℕ
slots_in rows = map (λ e. e.slot) rows

abbrev pub entry_rows : List Entry → List (ℕ × Entry)
entry_rows rows = map (λ e. (e.slot, e)) rows

-- the log of a list whose slots ascend
unfoldable pub log_of : List Entry → Map Entry
log_of rows = FinMap.from_entries (entry_rows rows)

abbrev pub span_code : Coded Span
span_code = code_by (ℕ × ℕ) (coded× coded_ℕ coded_ℕ) (λ r. (r.first, r.count)) (λ p. record { first = p.0; count = p.1 }) (λ _. refl)

abbrev pub named_code : Coded Named
named_code = code_by (ℕ × Span) (coded× coded_ℕ span_code) (λ n. (n.slot, n.range)) (λ p. record { slot = p.0; range = p.1 }) (λ _. refl)

-- an op as the range and sectors of a write, or whether it is a mark
abbrev pub parts_of : Op → Option (Option (Span × List (List ℕ)))
parts_of (Write range payload) = Some (Some (range, payload))
parts_of Noop = None
parts_of Mark = Some None

abbrev pub write_or_mark : Option (Span × List (List ℕ)) → Op
write_or_mark None = Mark
write_or_mark (Some parts) = Write parts.0 parts.1

abbrev pub op_with : Option (Option (Span × List (List ℕ))) → Op
op_with None = Noop
op_with (Some parts) = write_or_mark parts

pub op_back : (op : Op) → op_with (parts_of op) ≡ op
op_back (Write range payload) = refl
op_back Noop = refl
op_back Mark = refl

abbrev pub op_code : Coded Op
op_code = code_by (Option (Option (Span × List (List ℕ)))) (coded_option (coded_option (coded× span_code (coded_list (coded_list coded_ℕ))))) parts_of op_with
    op_back

abbrev pub entry_code : Coded Entry
entry_code =
    code_by (ℕ × (ℕ × (ℕ × (List Named × Op)))) (coded× coded_ℕ (coded× coded_ℕ (coded× coded_ℕ (coded× (coded_list named_code) op_code))))
    (λ e. (e.slot, (e.term, (e.first, (e.look, e.op)))))
    (λ p. record { slot = p.0; term = p.1.0; first = p.1.1.0; look = p.1.1.1.0; op = p.1.1.1.1 })
    (λ _. refl)
