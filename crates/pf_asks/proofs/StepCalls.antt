-- The calls of a step.
use Rattle.std.proofs.Common.{◌≡◌, ℕ, List, [], ◌∷◌, Bool, true, false, cond, Option, Some, None, Result, Ok, Err, OnErr, refl, sym, subst, ◌∙◌}
use Rattle.std.specs.Option.{option_map}
use Rattle.std.proofs.lemmas.Option.{none-some}
use Rattle.pf_base.specs.declared.asks.Ask.{Ask}
use Rattle.pf_base.specs.declared.asks.Reply.{Reply}
use Rattle.pf_base.specs.declared.asks.Reply.TheVariants.{Bytes}
use Rattle.pf_entry.specs.Lists.{Every}
use Rattle.pf_asks.specs.declared.port.Sent.{Sent}
use Rattle.pf_asks.specs.declared.port.Sent.TheVariants.{Slot, Number}
use Rattle.pf_asks.specs.Desks.{DeskCall, CallsLead, CallIsLook, Led, Submitted, Fetched, WasAcked, Took}
use Rattle.pf_asks.specs.Ports.{Drives, DrivesFrom, PortGoes, Hands, Hears, HearsFrom, AskIsHanded, IsLed, LooksFor, NeverLower, PortIs, PortStays, goes_to, reply_heard}
use Rattle.pf_asks.proofs.Terms.{led_never_lower, never_lower}

none_given : (answer : Option (List (List ℕ))) → option_map Bytes answer ≡ None → answer ≡ None
none_given None none = refl
none_given (Some sectors) none = cc

is_look : (sent : Sent) (last : ℕ) (call : DeskCall) (reply : Option Reply) → reply ≡ None → LooksFor sent last call reply → CallIsLook call
is_look (Slot slot) last (WasAcked term s is) reply none looks = tt
is_look (Number number) last (Took n answer) reply none looks = subst (λ a. CallIsLook (Took n a)) (sym (none_given answer (sym looks.1 ∙ none))) tt
is_look (Slot slot) last (Led leader) reply none looks = tt
is_look (Slot slot) last (Submitted i range payload s) reply none looks = absurd looks
is_look (Slot slot) last (Fetched i range n) reply none looks = absurd looks
is_look (Slot slot) last (Took n answer) reply none looks = absurd looks
is_look (Number number) last (Led leader) reply none looks = tt
is_look (Number number) last (Submitted i range payload s) reply none looks = absurd looks
is_look (Number number) last (Fetched i range n) reply none looks = absurd looks
is_look (Number number) last (WasAcked term s is) reply none looks = tt

module _ (old : PortIs) (ask : Ask) where
  drives_by : (sent : Option Sent) (calls : List DeskCall) (reply : Reply) (new : PortIs) → HearsFrom sent old calls (Some reply) new → DrivesFrom sent old ask calls (Some reply) new
  drives_by None calls reply new hears = absurd (none-some reply (sym hears.0))
  drives_by (Some sent) calls reply new hears = record { look = hears.look; rest = []; asked = hears.once; looks = hears.looks; goes = (refl, hears.is) }

  -- where a reply was heard, that is all of the step
  pub drives_so : (calls : List DeskCall) (reply : Reply) (new : PortIs) → Hears old calls (Some reply) new → Drives old ask calls (Some reply) new
  drives_so calls reply new hears = drives_by old.sent calls reply new hears

module _ {K : Type 0} (says : K → DeskCall → K → Type 0) (old : PortIs) where
  -- the answer was looked for
  pub hears_it : (sent : Sent) → old.sent ≡ Some sent → (before after : K) (reply : Option Reply) → (look : DeskCall) × says before look after × LooksFor sent old.last look reply
      → (calls : List DeskCall) × CallsLead says before calls after × Hears old calls reply (reply_heard reply old)
  hears_it sent is before after reply looked = (
    looked.0 ∷ [],
    (after, looked.1, refl),
    subst (λ s. HearsFrom s old (looked.0 ∷ []) reply (reply_heard reply old)) (sym is) (record { look = looked.0; once = refl; looks = looked.2; is = refl }),
  )

module _ {K : Type 0} (says : K → DeskCall → K → Type 0) (old : PortIs) (ask : Ask) where
  -- the leader was asked for, and the ask went to it or stays
  pub led : (before between after : K) (new : PortIs) (leader : Option (ℕ × ℕ)) (rest : List DeskCall) → says before (Led leader) between → CallsLead says between rest after → PortGoes old ask leader rest new
      → (calls : List DeskCall) × CallsLead says before calls after × IsLed old ask calls new
  led before between after new leader rest said more goes = (Led leader ∷ rest, (between, said, more), record { leader = leader; rest = rest; asked = refl; goes = goes })

  stays : PortStays old [] old
  stays = record { none = refl; same = refl }

  -- there is none
  pub led_nowhere : (before after : K) → says before (Led None) after → (calls : List DeskCall) × CallsLead says before calls after × IsLed old ask calls old
  led_nowhere before after said = led before after after old None [] said refl stays

  by_test : (goes : Bool) (given kept : Type 0) → goes ≡ false → kept → cond goes given kept
  by_test goes given kept is holds = subst (λ b. cond b given kept) (sym is) holds

  -- its term is too low
  pub led_past : (before after : K) (term server : ℕ) → says before (Led (Some (term, server))) after → goes_to old.sent old.last term ≡ false → (calls : List DeskCall) × CallsLead says before calls after × IsLed old ask calls old
  led_past before after term server said is = led before after after old (Some (term, server)) [] said refl (by_test (goes_to old.sent old.last term) (AskIsHanded old ask term server [] old) (PortStays old [] old) is stays)

  -- it was handed to it
  pub led_there : (before between after : K) (new : PortIs) (term server : ℕ) (sent : Option Sent) → says before (Led (Some (term, server))) between → goes_to old.sent old.last term ≡ true
      → (call : DeskCall) × says between call after × Hands ask server call sent → new ≡ record old { sent = sent; last = term } → (calls : List DeskCall) × CallsLead says before calls after × IsLed old ask calls new
  led_there before between after new term server sent said is handed same =
      led before between after new (Some (term, server)) (handed.0 ∷ []) said (after, handed.1, refl)
      (subst (λ b. cond b (AskIsHanded old ask term server (handed.0 ∷ []) new) (PortStays old (handed.0 ∷ []) new)) (sym is) (record { call = handed.0; once = refl; sent = sent; hands = handed.2; is = same }))

  -- no reply was heard
  module _ (before between : K) (mid : PortIs) (first : (calls : List DeskCall) × CallsLead says before calls between × Hears old calls None mid) where
    by_sent : (sent : Option Sent) (calls : List DeskCall) → HearsFrom sent old calls None mid → mid ≡ old
    by_sent None calls hears = hears.1.same
    by_sent (Some sent) calls hears = hears.is

    pub unheard : mid ≡ old
    unheard = by_sent old.sent first.0 first.2

    then_led : (sent : Option Sent) (calls : List DeskCall) → CallsLead says before calls between → HearsFrom sent old calls None mid → (after : K) (new : PortIs) → (rest : List DeskCall) × CallsLead says between rest after × IsLed old ask rest new
        → (all : List DeskCall) × CallsLead says before all after × DrivesFrom sent old ask all None new
    then_led None calls lead hears after new led =
        let here : between ≡ before = subst (λ cs. CallsLead says before cs between) hears.1.none lead in
        (led.0, subst (λ d. CallsLead says d led.0 after) here led.1, (refl, led.2))
    then_led (Some sent) calls lead hears after new led =
        let looked = subst (λ cs. CallsLead says before cs between) hears.once lead in (
          hears.look ∷ led.0,
          (looked.0, looked.1, subst (λ d. CallsLead says d led.0 after) looked.2 led.1),
          record { look = hears.look; rest = led.0; asked = refl; looks = hears.looks; goes = led.2 },
        )

    -- it is led then
    pub leads_then : (after : K) (new : PortIs) → (rest : List DeskCall) × CallsLead says between rest after × IsLed mid ask rest new → (calls : List DeskCall) × CallsLead says before calls after × Drives old ask calls None new
    leads_then after new led =
        then_led old.sent first.0 first.1 first.2 after new (led.0, led.1, subst (λ (p : PortIs). IsLed p ask led.0 new) unheard led.2)

    then_looks : (sent : Option Sent) (calls : List DeskCall) → CallsLead says before calls between → HearsFrom sent old calls None mid → (after : K) → (rest : List DeskCall) × CallsLead says between rest after × Every CallIsLook rest
        → (all : List DeskCall) × CallsLead says before all after × Every CallIsLook all
    then_looks None calls lead hears after rest =
        let here : between ≡ before = subst (λ cs. CallsLead says before cs between) hears.1.none lead in
        (rest.0, subst (λ d. CallsLead says d rest.0 after) here rest.1, rest.2)
    then_looks (Some sent) calls lead hears after rest =
        let looked = subst (λ cs. CallsLead says before cs between) hears.once lead in (
          hears.look ∷ rest.0,
          (looked.0, looked.1, subst (λ d. CallsLead says d rest.0 after) looked.2 rest.1),
          (is_look sent old.last hears.look None refl hears.looks, rest.2),
        )

    -- only looks were made where there was no memory then
    pub looks_alone : (after : K) → (rest : List DeskCall) × CallsLead says between rest after × Every CallIsLook rest → (calls : List DeskCall) × CallsLead says before calls after × Every CallIsLook calls
    looks_alone after rest = then_looks old.sent first.0 first.1 first.2 after rest

  -- no submission went to a leader of a lower term
  pub none_lower : (before after : K) (reply : Option Reply) (new : PortIs) → (calls : List DeskCall) × CallsLead says before calls after × Drives old ask calls reply new → (calls : List DeskCall) × CallsLead says before calls after × NeverLower old.last None calls
  none_lower before after reply new drove = (drove.0, drove.1, never_lower old new ask drove.0 reply drove.2)

  pub led_lower : (before after : K) (new : PortIs) → (calls : List DeskCall) × CallsLead says before calls after × IsLed old ask calls new → (calls : List DeskCall) × CallsLead says before calls after × NeverLower old.last None calls
  led_lower before after new led = (led.0, led.1, led_never_lower old new ask led.0 led.2)

pub on_err : {X E : Type 0} (r : Result X E) (P : Type 0) → P → OnErr r P
on_err (Ok x) P is = tt
on_err (Err e) P is = is
