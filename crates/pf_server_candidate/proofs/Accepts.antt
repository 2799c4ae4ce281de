-- Entries that are sent one after another.
use Rattle.std.proofs.Common.{◌≡◌, ℕ, suc, ◌+◌, ◌<◌, List, [], ◌∷◌, ◌++◌, length, take, drop, get_or, arith, sym, ap, ◌∙◌}
use Rattle.std.proofs.lemmas.Grind.{flat_map-append}
use Rattle.std.proofs.lemmas.List.{append-nil, take-append-drop}
use Rattle.std.proofs.Math.Seq.{take-suc}
use Rattle.pf_entry.specs.Lists.{Every}
use Rattle.pf_entry.specs.declared.entries.Entry.{Entry}
use Rattle.pf_entry.specs.declared.packets.Body.TheVariants.{Accept}
use Rattle.pf_server_memory.specs.Packets.{packets_to, AreCanonical}
use Rattle.pf_server_candidate.specs.Merging.{accepts}
use Rattle.pf_server_candidate.proofs.LeaderMemory.{each_at}

module _ (me term : ℕ) where
  module _ (es : List Entry) (n : ℕ) (e : Entry) (lt : n < length es) (at : e ≡ get_or es n e) where
    pub accepts_more : accepts me term (take (n + 1) es) ≡ accepts me term (take n es) ++ packets_to me term (Accept e)
    accepts_more =
        let next : n + 1 ≡ suc n = omega arith in
        ap (λ k. accepts me term (take k es)) next
        ∙ ap (accepts me term) (take-suc es n e lt ∙ ap (λ x. take n es ++ x ∷ []) (sym at))
        ∙ flat_map-append (λ x. packets_to me term (Accept x)) (take n es) (e ∷ [])
        ∙ ap (λ ps. accepts me term (take n es) ++ ps) (append-nil (packets_to me term (Accept e)))

    pub accepts_all : (accepts me term (take n es) ++ packets_to me term (Accept e)) ++ accepts me term (drop (n + 1) es) ≡ accepts me term es
    accepts_all =
        ap (λ ps. ps ++ accepts me term (drop (n + 1) es)) (sym accepts_more)
        ∙ sym (flat_map-append (λ x. packets_to me term (Accept x)) (take (n + 1) es) (drop (n + 1) es))
        ∙ ap (accepts me term) (take-append-drop (n + 1) es)

    pub next_canonical : Every (λ x. AreCanonical me term (Accept x)) es → AreCanonical me term (Accept e)
    next_canonical each = each_at (λ x. AreCanonical me term (Accept x)) es n e each lt at
