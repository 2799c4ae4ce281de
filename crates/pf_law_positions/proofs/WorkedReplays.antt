-- How a worked history is replayed, and what its events are answered. (pf_protocol has the same for its own worked histories, and keeps them.)
use Rattle.std.proofs.Common.{◌≡◌, ℕ, Bool, true, false, cond, List, [], ◌∷◌, length, Option, Some, None, refl, sym, ap, subst, ◌∙◌, arith, inl, inr}
use Rattle.std.specs.Prelude.{slice_get, is_some}
use Rattle.std.specs.Ordering.{nat_cmp}
use Rattle.std.proofs.lemmas.Bool.{false≢true}
use Rattle.std.specs.FinMap
use Rattle.std.specs.Cmp.{nat_cmp_total}
use Rattle.std.specs.FinMap.{len-entries, len-empty, get-empty, get-retain_keys, same_map, nat_cmp-IsAntisymmetric}
use Rattle.pf_base.specs.Span.{Span, fits_in}
use Rattle.pf_entry.specs.Maps.{Numbers}
use Rattle.pf_entry.specs.Sets
use Rattle.pf_entry.specs.declared.packets.Packet.{Packet}
use Rattle.pf_protocol.specs.declared.events.Event.TheVariants.{Fetch, Deliver}
use Rattle.pf_protocol.specs.declared.events.Happening.{Happening}
use Rattle.pf_protocol.specs.Servers.{Setup, Server, Running}
use Rattle.pf_protocol.specs.Outcomes.{Outcome}
use Rattle.pf_protocol.specs.Leading.{on_fetch}
use Rattle.pf_protocol.specs.Rows.{on_packet}
use Rattle.pf_protocol.specs.Groups.{Group, Whole, ending, acted, with_sent, happens}
use Rattle.pf_protocol.specs.Histories.{History, run}
use Rattle.pf_protocol.specs.Answers.{answer_to, room_refusal, fetch_refusal, is_serving, Claimed, claims_after, MayHappen, IsLegalFrom, IsSetup}
use Rattle.pf_protocol.specs.Shown.{small_group}

no_rows : {A : Type 0} (es : List A) → 0 ≡ length es → es ≡ []
no_rows [] e = refl
no_rows (x ∷ es) e = absurd (omega arith)

pub empty_rows : (X : Type 0) → FinMap.entries {X = X} {R = nat_cmp} FinMap.empty ≡ []
empty_rows X = no_rows _ (sym (sym (len-entries FinMap.empty) ∙ len-empty nat_cmp X))

pub fetches : (setup : Setup) (g : Group) (i : ℕ) (range : Span) (s : Server) (o : Outcome) → slice_get g.servers i ≡ Some (Running s) → on_fetch s range g.reads s.role ≡ o → happens setup g (Fetch i range) Whole ≡ acted g i o
unfolding happens
fetches setup g i range s o at is = rw at (ap (acted g i) is)

pub delivers : (setup : Setup) (g : Group) (k : ℕ) (packet : Packet) (before : Bool) (s : Server) (o : Outcome) → slice_get g.packets k ≡ Some (record { packet = packet; delivered = before; lost = false }) → slice_get g.servers packet.to ≡ Some (Running s) → on_packet setup s packet ≡ o → happens setup g (Deliver k) Whole ≡ acted (with_sent g k (record { packet = packet; delivered = true; lost = false })) packet.to o
unfolding happens
delivers setup g k packet before s o sent at is = rw (sent, at) (ap (acted (with_sent g k (record { packet = packet; delivered = true; lost = false })) packet.to) is)

pub none_of : (p : ℕ → Bool) (slot : ℕ) → Sets.contains Sets.empty slot ≡ true → p slot ≡ false
none_of p slot is = absurd (false≢true (sym (ap is_some (get-empty nat_cmp slot)) ∙ is))

pub follows : (setup : Setup) (g later last : Group) (h : Happening) (hs : History) → happens setup g h.event (ending h.answer) ≡ later → run setup later hs ≡ last → run setup g (h ∷ hs) ≡ last
follows setup g later last h hs now rest = ap (λ x. run setup x hs) now ∙ rest

pub retains_none : (set : Numbers) (p : ℕ → Bool) → ((slot : ℕ) → Sets.contains set slot ≡ true → p slot ≡ false) → Sets.retain set p ≡ Sets.empty
retains_none set p none =
    same_map nat_cmp_total nat_cmp-IsAntisymmetric (Sets.retain set p) Sets.empty
    (λ q. get-retain_keys set p q (λ x tied. ap p (sym (nat_cmp-IsAntisymmetric q x tied))) ∙ nothing q (FinMap.get set q) refl ∙ sym (get-empty nat_cmp q))
  where
    nothing : (q : ℕ) (found : Option (Unit {0})) → FinMap.get set q ≡ found → cond (p q) found None ≡ None
    nothing q None is = same (p q)
      where
        same : (b : Bool) → cond {A = Option (Unit {0})} b None None ≡ None
        same true = refl
        same false = refl
    nothing q (Some u) is = rw (none q (ap is_some is)) refl

pub fetch_answer : (setup : Setup) (g : Group) (i : ℕ) (range : Span) (s : Server) (o : Outcome) → slice_get g.servers i ≡ Some (Running s) → fits_in range setup.chunk ≡ true → is_serving s.role ≡ true → on_fetch s range g.reads s.role ≡ o → room_refusal g o ≡ None → answer_to setup g (Fetch i range) ≡ o.answer
unfolding answer_to fetch_refusal
fetch_answer setup g i range s o at fits serves is room = rw (at, fits, serves, is, room) refl

pub deliver_answer : (setup : Setup) (g : Group) (k : ℕ) (packet : Packet) (before : Bool) (s : Server) (o : Outcome) → slice_get g.packets k ≡ Some (record { packet = packet; delivered = before; lost = false }) → slice_get g.servers packet.to ≡ Some (Running s) → on_packet setup s packet ≡ o → room_refusal g o ≡ None → answer_to setup g (Deliver k) ≡ o.answer
unfolding answer_to
deliver_answer setup g k packet before s o sent at is room = rw (sent, at, is, room) refl

pub goes_on : (setup : Setup) (g later : Group) (claims : List Claimed) (h : Happening) (hs : History) → MayHappen claims h.event → answer_to setup g h.event ≡ h.answer → happens setup g h.event (ending h.answer) ≡ later → IsLegalFrom setup later (claims_after claims h.event h.answer) hs → IsLegalFrom setup g claims (h ∷ hs)
goes_on setup g later claims h hs asked answered after rest =
    (record { asked = asked; answered = inl (sym answered) }, subst (λ x. IsLegalFrom setup x (claims_after claims h.event h.answer) hs) (sym after) rest)

pub is_small_group : IsSetup small_group
is_small_group = record { few_names = omega arith; some_sectors = omega arith; few_sectors = omega arith; blocks = (2, refl); format = inr refl; window = refl }
