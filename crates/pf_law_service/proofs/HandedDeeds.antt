-- What mounts' ports handed on: each write and each read is a deed, each such deed is one of them, and it happened in the group.
use Rattle.std.proofs.Common.{◌≡◌, ℕ, suc, ◌<◌, ◌≤◌, ◌⊎◌, inl, inr, List, [], ◌∷◌, ◌++◌, length, Some, None, slice_get, arith, refl, sym, ap, subst, ◌∙◌}
use Rattle.std.proofs.lemmas.Bool.{cases_eq, cases_lt}
use Rattle.std.proofs.lemmas.Option.{none-some, same_Some, slice_get_within}
use Rattle.pf_base.specs.Asks.{chunk_of}
use Rattle.pf_base.specs.Span.{Span}
use Rattle.pf_base.specs.declared.asks.Ask.{Ask}
use Rattle.pf_base.specs.declared.asks.Ask.TheVariants.{Write as WriteAsk, Read as ReadAsk}
use Rattle.pf_entry.specs.Ops.{Sector}
use Rattle.pf_entry.specs.declared.ops.Op.TheVariants.{Write}
use Rattle.pf_protocol.specs.declared.answers.Answer.{Answer}
use Rattle.pf_protocol.specs.Histories.{IsPrefix}
use Rattle.pf_protocol.specs.Ports.{Submission, submitting}
use Rattle.pf_protocol.proofs.ForMoments.{prefix_of, whole_prefix}
use Rattle.pf_asks.specs.Ports.{PortIs}
use Rattle.pf_law_positions.specs.Deeds.{Deed, Gets, DeedIsPending, Puts, Submits, Takes}
use Rattle.pf_law_positions.specs.PortDeeds.{no_deed, port_ask}
use Rattle.pf_law_ports.specs.Calls.{Fetching, PortPast, fetching, fetching_of, submission_of, with_read, with_write}
use Rattle.pf_law_ports.specs.pf_group_network.proofs.Lists.{at_end, at_front, end_cases}
use Rattle.pf_law_service.specs.Served.{Asks, Grows, Hands, Hears, IsClientOfAsk, AskIsRead, ChunkIsServed, Moves, Opens, Passes, Switches, hands_deed, hears_deed}
use Rattle.pf_law_service.specs.Services.{Owed, Service, service_asked, service_grown, service_moved, last_ask_number, past_of, service_stepped, service_switched}
use Rattle.pf_law_service.proofs.DrivenPorts.{AreDriven, driven, twice, twice_here, twice_off}
use Rattle.pf_law_service.proofs.ServiceGrowth.{Goes, asked_goes, grown_goes, moved_goes, moved_once, stepped_goes, switched_goes}
use Rattle.pf_law_service.proofs.OwedAsks.{Owes, owes}
use Rattle.pf_law_service.proofs.Places.{but_here, pending_longer}
use Rattle.pf_law_service.proofs.PortWork.{Fetches, Works, Writes, worked}

-- Lists of which one goes on

pub twice_stays : {X : Type 0} → (f : ℕ → ℕ → List X) (one two : ℕ) (a : List X) → ((k : ℕ) (x : X) → slice_get (f one two) k ≡ Some x → slice_get a k ≡ Some x) → (e m k : ℕ) (x : X) → slice_get (f e m) k ≡ Some x → slice_get (twice f one two a e m) k ≡ Some x
twice_stays {X} f one two a stays e m k x at = elim (cases_eq e one) [
  | inl is ↦ elim (cases_eq m two) [
    | inl also ↦
        let here : twice f one two a e m ≡ a = ap (λ i. twice f one two a i m) is ∙ ap (twice f one two a one) also ∙ twice_here f one two a in
        let there : f e m ≡ f one two = ap (λ i. f i m) is ∙ ap (f one) also in
        ap (λ (xs : List X). slice_get xs k) here ∙ stays k x (ap (λ (xs : List X). slice_get xs k) (sym there) ∙ at)
    | inr other ↦ ap (λ (xs : List X). slice_get xs k) (twice_off f one two a e m (λ _ same. other same)) ∙ at
  ]
  | inr other ↦ ap (λ (xs : List X). slice_get xs k) (twice_off f one two a e m (λ same _. other same)) ∙ at
]

-- what stands in them stood there, or is of the one
pub twice_cases : {X : Type 0} → (f : ℕ → ℕ → List X) (one two : ℕ) (a : List X) (e m k : ℕ) (x : X) → slice_get (twice f one two a e m) k ≡ Some x → (slice_get (f e m) k ≡ Some x) ⊎ ((e ≡ one) × (m ≡ two) × (slice_get a k ≡ Some x))
twice_cases {X} f one two a e m k x at = elim (cases_eq e one) [
  | inl is ↦ elim (cases_eq m two) [
    | inl also ↦
        let here : twice f one two a e m ≡ a = ap (λ i. twice f one two a i m) is ∙ ap (twice f one two a one) also ∙ twice_here f one two a in
        inr (is, also, ap (λ (xs : List X). slice_get xs k) (sym here) ∙ at)
    | inr other ↦ inl (ap (λ (xs : List X). slice_get xs k) (sym (twice_off f one two a e m (λ _ same. other same))) ∙ at)
  ]
  | inr other ↦ inl (ap (λ (xs : List X). slice_get xs k) (sym (twice_off f one two a e m (λ same _. other same))) ∙ at)
]

-- the last ask of a port that pends
pub pends_owed : (chunk : ℕ) (s : Service) (ds : List Deed) (m : ℕ) (o : Owed) (ask : Ask) → Owes chunk s ds → s.owed m ≡ Some o → (s.port m).ask ≡ Some ask → DeedIsPending ds o.client o.moment (length ds) (port_ask ask)
pends_owed chunk s ds m o ask x is pends =
    let p = x.pends m ask pends in
    subst (λ (z : Owed). DeedIsPending ds z.client z.moment (length ds) (port_ask ask)) (same_Some p.owed o (sym p.is ∙ is)) p.pending

module _ (chunk : ℕ) where
  -- a write of mount m, and a read of one of its two clients
  pub record IsWriteOf (s : Service) (ds : List Deed) (e m : ℕ) (a : Submission) : Type 0 where
    pub small : m < 16
    pub moment : ℕ
    pub at : slice_get ds moment ≡ Some (Submits m chunk e (length a.before))
    pub asked : ℕ
    pub number : a.write ≡ suc asked
    pub pending : DeedIsPending ds m asked moment (Puts chunk a.op)
    pub happened : IsPrefix (a.before ++ submitting a ∷ []) (s.history e)

  pub record IsReadOf (s : Service) (ds : List Deed) (e m : ℕ) (f : Fetching) : Type 0 where
    pub client : ℕ
    pub moment : ℕ
    pub at : slice_get ds moment ≡ Some (Submits client chunk e (length f.before))
    pub asked : ℕ
    pub number : f.ask ≡ suc asked
    pub pending : DeedIsPending ds client asked moment (Gets chunk f.range)
    pub happened : IsPrefix (f.before ++ fetching f ∷ []) (s.history e)

  -- what a deed handed on
  pub data Hand (s : Service) (client e place : ℕ) : Type 0 where
    ByWrite : (k : ℕ) (a : Submission) → client < 16 → slice_get (s.writes e client) k ≡ Some a → length a.before ≡ place → Hand s client e place
    ByRead : (m k : ℕ) (f : Fetching) → slice_get (s.reads e m) k ≡ Some f → length f.before ≡ place → Hand s client e place

  pub record AreHanded (s : Service) (ds : List Deed) : Type 0 where
    pub write : (e m k : ℕ) (a : Submission) → slice_get (s.writes e m) k ≡ Some a → IsWriteOf s ds e m a
    pub read : (e m k : ℕ) (f : Fetching) → slice_get (s.reads e m) k ≡ Some f → IsReadOf s ds e m f
    pub hand : (i client its e place : ℕ) → slice_get ds i ≡ Some (Submits client its e place) → Hand s client e place

  -- As the service goes on

  write_on : (s after : Service) (ds : List Deed) (e m : ℕ) (a : Submission) → IsPrefix (s.history e) (after.history e) → IsWriteOf s ds e m a → IsWriteOf after ds e m a
  write_on s after ds e m a more w = record {
    small = w.small;
    moment = w.moment;
    at = w.at;
    asked = w.asked;
    number = w.number;
    pending = w.pending;
    happened = prefix_of (a.before ++ submitting a ∷ []) (s.history e) (after.history e) w.happened more;
  }

  write_more : (s : Service) (ds : List Deed) (d : Deed) (e m : ℕ) (a : Submission) → IsWriteOf s ds e m a → IsWriteOf s (ds ++ d ∷ []) e m a
  write_more s ds d e m a w =
      let within = slice_get_within ds w.moment (Submits m chunk e (length a.before)) w.at in record {
        small = w.small;
        moment = w.moment;
        at = at_front ds (d ∷ []) w.moment (Submits m chunk e (length a.before)) w.at;
        asked = w.asked;
        number = w.number;
        pending = pending_longer ds (d ∷ []) m w.asked w.moment (Puts chunk a.op) (omega (arith, within)) w.pending;
        happened = w.happened;
      }

  read_on : (s after : Service) (ds : List Deed) (e m : ℕ) (f : Fetching) → IsPrefix (s.history e) (after.history e) → IsReadOf s ds e m f → IsReadOf after ds e m f
  read_on s after ds e m f more r = record {
    client = r.client;
    moment = r.moment;
    at = r.at;
    asked = r.asked;
    number = r.number;
    pending = r.pending;
    happened = prefix_of (f.before ++ fetching f ∷ []) (s.history e) (after.history e) r.happened more;
  }

  read_more : (s : Service) (ds : List Deed) (d : Deed) (e m : ℕ) (f : Fetching) → IsReadOf s ds e m f → IsReadOf s (ds ++ d ∷ []) e m f
  read_more s ds d e m f r =
      let within = slice_get_within ds r.moment (Submits r.client chunk e (length f.before)) r.at in record {
        client = r.client;
        moment = r.moment;
        at = at_front ds (d ∷ []) r.moment (Submits r.client chunk e (length f.before)) r.at;
        asked = r.asked;
        number = r.number;
        pending = pending_longer ds (d ∷ []) r.client r.asked r.moment (Gets chunk f.range) (omega (arith, within)) r.pending;
        happened = r.happened;
      }

  -- an epoch to come has nothing yet
  write_low : (s : Service) (e m k : ℕ) (a : Submission) → AreDriven s → slice_get (s.writes e m) k ≡ Some a → e ≤ s.epoch
  write_low s e m k a x at = elim (cases_lt s.epoch e) [
    | inl past ↦ absurd (none-some a (ap (λ (l : List Submission). slice_get l k) (sym (x.none e m past).0) ∙ at))
    | inr low ↦ low
  ]

  read_low : (s : Service) (e m k : ℕ) (f : Fetching) → AreDriven s → slice_get (s.reads e m) k ≡ Some f → e ≤ s.epoch
  read_low s e m k f x at = elim (cases_lt s.epoch e) [
    | inl past ↦ absurd (none-some f (ap (λ (l : List Fetching). slice_get l k) (sym (x.none e m past).1) ∙ at))
    | inr low ↦ low
  ]

  -- nothing is handed on
  handed_on : (s after : Service) (ds : List Deed) → Goes s after → AreDriven s → ((e m : ℕ) → after.writes e m ≡ s.writes e m) → ((e m : ℕ) → after.reads e m ≡ s.reads e m) → AreHanded s ds → AreHanded after ds
  handed_on s after ds goes x writes reads h = record {
    write = λ e m k a at.
        let old : slice_get (s.writes e m) k ≡ Some a = ap (λ (l : List Submission). slice_get l k) (sym (writes e m)) ∙ at in
        write_on s after ds e m a (goes.history e (write_low s e m k a x old)) (h.write e m k a old);
    read = λ e m k f at.
        let old : slice_get (s.reads e m) k ≡ Some f = ap (λ (l : List Fetching). slice_get l k) (sym (reads e m)) ∙ at in
        read_on s after ds e m f (goes.history e (read_low s e m k f x old)) (h.read e m k f old);
    hand = λ i client its e place at. hand_on client e place (h.hand i client its e place at);
  }
    where
      hand_on : (client e place : ℕ) → Hand s client e place → Hand after client e place
      hand_on client e place (ByWrite k a small at is) = ByWrite k a small (ap (λ (l : List Submission). slice_get l k) (writes e client) ∙ at) is
      hand_on client e place (ByRead m k f at is) = ByRead m k f (ap (λ (l : List Fetching). slice_get l k) (reads e m) ∙ at) is

  handed_more : (s : Service) (ds : List Deed) (d : Deed) → ((client its e place : ℕ) → d ≡ Submits client its e place → ⊥) → AreHanded s ds → AreHanded s (ds ++ d ∷ [])
  handed_more s ds d no_hand h = record {
    write = λ e m k a at. write_more s ds d e m a (h.write e m k a at);
    read = λ e m k f at. read_more s ds d e m f (h.read e m k f at);
    hand = λ i client its e place at. elim (end_cases ds d i (Submits client its e place) at) [
      | inl old ↦ h.hand i client its e place old
      | inr new ↦ absurd (no_hand client its e place new.1)
    ];
  }

  -- One event of the group

  hand_stays : (s : Service) (mount : ℕ) (new : PortPast) (next : PortIs)
      → ((k : ℕ) (a : Submission) → slice_get (s.writes s.epoch mount) k ≡ Some a → slice_get new.writes k ≡ Some a)
      → ((k : ℕ) (f : Fetching) → slice_get (s.reads s.epoch mount) k ≡ Some f → slice_get new.reads k ≡ Some f)
      → (client e place : ℕ) → Hand s client e place → Hand (service_stepped s mount new next) client e place
  hand_stays s mount new next writes reads client e place (ByWrite k a small at is) = ByWrite k a small (twice_stays s.writes s.epoch mount new.writes writes e client k a at) is
  hand_stays s mount new next writes reads client e place (ByRead m k f at is) = ByRead m k f (twice_stays s.reads s.epoch mount new.reads reads e m k f at) is

  -- of a mount's clients one alone writes
  pub own_write : (m client k : ℕ) (span : Span) (sectors : List Sector) (ask : Ask) → ask ≡ WriteAsk k span sectors → IsClientOfAsk m client ask → client ≡ m
  own_write m client k span sectors ask is of = elim of.is [
    | inl own ↦ own
    | inr far ↦ absurd (subst AskIsRead is far.1)
  ]

  module _ (s : Service) (ds : List Deed) (mount : ℕ) (owed : Owed) (next : PortIs) (x : AreDriven s) (o : Owes chunk s ds) (owes : s.owed mount ≡ Some owed) (pends : (s.port mount).ask ≡ Some owed.ask) (h : AreHanded s ds) (server : ℕ) (span : Span) (answer : Answer) where
    -- its deed
    abbrev now : Deed
    now = hands_deed chunk s owed

    abbrev more : List Deed
    more = ds ++ now ∷ []

    pending : DeedIsPending ds owed.client owed.moment (length ds) (port_ask owed.ask)
    pending = pends_owed chunk s ds mount owed owed.ask o owes pends

    client : IsClientOfAsk mount owed.client owed.ask
    client = (o.owed mount owed owes).client

    hand_write : (k : ℕ) (sectors : List Sector) → owed.ask ≡ WriteAsk k span sectors → AreHanded (service_stepped s mount (with_write (past_of s mount) (submission_of (past_of s mount) server span sectors answer)) next) more
    hand_write k sectors is =
        let a : Submission = submission_of (past_of s mount) server span sectors answer in
        let new : PortPast = with_write (past_of s mount) a in
        let after : Service = service_stepped s mount new next in
        let goes : Goes s after = stepped_goes s mount new next (record { rest = submitting a ∷ []; whole = refl }) in
        let own : owed.client ≡ mount = own_write mount owed.client k span sectors owed.ask is client in
        let of : k ≡ chunk = sym (ap chunk_of is) ∙ (o.owed mount owed owes).of in
        let put : port_ask owed.ask ≡ Puts chunk (Write span sectors) = ap port_ask is ∙ ap (λ c. Puts c (Write span sectors)) of in
        let written : IsWriteOf after more s.epoch mount a = record {
          small = client.small;
          moment = length ds;
          at = at_end ds now ∙ ap (λ c. Some (Submits c chunk s.epoch (length (s.history s.epoch)))) own;
          asked = owed.moment;
          number = ap last_ask_number owes;
          pending = pending_longer ds (now ∷ []) mount owed.moment (length ds) (Puts chunk (Write span sectors)) (omega arith)
              (subst (DeedIsPending ds mount owed.moment (length ds)) put (subst (λ c. DeedIsPending ds c owed.moment (length ds) (port_ask owed.ask)) own pending));
          happened = subst (IsPrefix (s.history s.epoch ++ submitting a ∷ [])) (sym (but_here s.history s.epoch new.history s.epoch refl)) (whole_prefix new.history);
        } in
        let stays : (i : ℕ) (b : Submission) → slice_get (s.writes s.epoch mount) i ≡ Some b → slice_get new.writes i ≡ Some b = λ i b at. at_front (s.writes s.epoch mount) (a ∷ []) i b at in
        record {
          write = λ e m i b at. elim (twice_cases s.writes s.epoch mount new.writes e m i b at) [
            | inl old ↦ write_more after ds now e m b (write_on s after ds e m b (goes.history e (write_low s e m i b x old)) (h.write e m i b old))
            | inr here ↦ elim (end_cases (s.writes s.epoch mount) a i b here.2) [
              | inl old ↦
                  let there : IsWriteOf s ds s.epoch mount b = h.write s.epoch mount i b old in
                  subst (λ n. IsWriteOf after more n m b) (sym here.0)
                  (subst (λ n. IsWriteOf after more s.epoch n b) (sym here.1)
                  (write_more after ds now s.epoch mount b (write_on s after ds s.epoch mount b (goes.history s.epoch (omega arith)) there)))
              | inr end ↦
                  subst (λ n. IsWriteOf after more n m b) (sym here.0)
                  (subst (λ n. IsWriteOf after more s.epoch n b) (sym here.1)
                  (subst (IsWriteOf after more s.epoch mount) end.1 written))
            ]
          ];
          read = λ e m i f at. elim (twice_cases s.reads s.epoch mount new.reads e m i f at) [
            | inl old ↦ read_more after ds now e m f (read_on s after ds e m f (goes.history e (read_low s e m i f x old)) (h.read e m i f old))
            | inr here ↦
                subst (λ n. IsReadOf after more n m f) (sym here.0)
                (subst (λ n. IsReadOf after more s.epoch n f) (sym here.1)
                (read_more after ds now s.epoch mount f (read_on s after ds s.epoch mount f (goes.history s.epoch (omega arith)) (h.read s.epoch mount i f here.2))))
          ];
          hand = λ i its of e place at. elim (end_cases ds now i (Submits its of e place) at) [
            | inl old ↦ hand_stays s mount new next stays (λ i f at. at) its e place (h.hand i its of e place old)
            | inr end ↦
                let same : Submits owed.client chunk s.epoch (length (s.history s.epoch)) ≡ Submits its of e place = end.1 in
                let its_is : owed.client ≡ its = cc in
                let e_is : s.epoch ≡ e = cc in
                let place_is : length (s.history s.epoch) ≡ place = cc in
                let low = client.small in
                subst (λ n. Hand after n e place) (sym own ∙ its_is)
                (subst (λ n. Hand after mount n place) e_is
                (ByWrite (length (s.writes s.epoch mount)) a low (ap (λ (l : List Submission). slice_get l (length (s.writes s.epoch mount))) (twice_here s.writes s.epoch mount new.writes) ∙ at_end (s.writes s.epoch mount) a) place_is))
          ];
        }

    hand_read : (k : ℕ) → owed.ask ≡ ReadAsk k span → AreHanded (service_stepped s mount (with_read (past_of s mount) (fetching_of (past_of s mount) server span answer)) next) more
    hand_read k is =
        let f : Fetching = fetching_of (past_of s mount) server span answer in
        let new : PortPast = with_read (past_of s mount) f in
        let after : Service = service_stepped s mount new next in
        let goes : Goes s after = stepped_goes s mount new next (record { rest = fetching f ∷ []; whole = refl }) in
        let of : k ≡ chunk = sym (ap chunk_of is) ∙ (o.owed mount owed owes).of in
        let get : port_ask owed.ask ≡ Gets chunk span = ap port_ask is ∙ ap (λ c. Gets c span) of in
        let fetched : IsReadOf after more s.epoch mount f = record {
          client = owed.client;
          moment = length ds;
          at = at_end ds now;
          asked = owed.moment;
          number = ap last_ask_number owes;
          pending = pending_longer ds (now ∷ []) owed.client owed.moment (length ds) (Gets chunk span) (omega arith) (subst (DeedIsPending ds owed.client owed.moment (length ds)) get pending);
          happened = subst (IsPrefix (s.history s.epoch ++ fetching f ∷ [])) (sym (but_here s.history s.epoch new.history s.epoch refl)) (whole_prefix new.history);
        } in
        let stays : (i : ℕ) (b : Fetching) → slice_get (s.reads s.epoch mount) i ≡ Some b → slice_get new.reads i ≡ Some b = λ i b at. at_front (s.reads s.epoch mount) (f ∷ []) i b at in
        record {
          write = λ e m i b at. elim (twice_cases s.writes s.epoch mount new.writes e m i b at) [
            | inl old ↦ write_more after ds now e m b (write_on s after ds e m b (goes.history e (write_low s e m i b x old)) (h.write e m i b old))
            | inr here ↦
                subst (λ n. IsWriteOf after more n m b) (sym here.0)
                (subst (λ n. IsWriteOf after more s.epoch n b) (sym here.1)
                (write_more after ds now s.epoch mount b (write_on s after ds s.epoch mount b (goes.history s.epoch (omega arith)) (h.write s.epoch mount i b here.2))))
          ];
          read = λ e m i b at. elim (twice_cases s.reads s.epoch mount new.reads e m i b at) [
            | inl old ↦ read_more after ds now e m b (read_on s after ds e m b (goes.history e (read_low s e m i b x old)) (h.read e m i b old))
            | inr here ↦ elim (end_cases (s.reads s.epoch mount) f i b here.2) [
              | inl old ↦
                  subst (λ n. IsReadOf after more n m b) (sym here.0)
                  (subst (λ n. IsReadOf after more s.epoch n b) (sym here.1)
                  (read_more after ds now s.epoch mount b (read_on s after ds s.epoch mount b (goes.history s.epoch (omega arith)) (h.read s.epoch mount i b old))))
              | inr end ↦
                  subst (λ n. IsReadOf after more n m b) (sym here.0)
                  (subst (λ n. IsReadOf after more s.epoch n b) (sym here.1)
                  (subst (IsReadOf after more s.epoch mount) end.1 fetched))
            ]
          ];
          hand = λ i its of e place at. elim (end_cases ds now i (Submits its of e place) at) [
            | inl old ↦ hand_stays s mount new next (λ i b at. at) stays its e place (h.hand i its of e place old)
            | inr end ↦
                let same : Submits owed.client chunk s.epoch (length (s.history s.epoch)) ≡ Submits its of e place = end.1 in
                let e_is : s.epoch ≡ e = cc in
                let place_is : length (s.history s.epoch) ≡ place = cc in
                subst (λ n. Hand after its n place) e_is
                (ByRead mount (length (s.reads s.epoch mount)) f (ap (λ (l : List Fetching). slice_get l (length (s.reads s.epoch mount))) (twice_here s.reads s.epoch mount new.reads) ∙ at_end (s.reads s.epoch mount) f) place_is)
          ];
        }

  -- the port hands its ask on
  after_hand : (s : Service) (ds : List Deed) (mount : ℕ) (owed : Owed) (new : PortPast) (next : PortIs) → AreDriven s → Owes chunk s ds → s.owed mount ≡ Some owed → (s.port mount).ask ≡ Some owed.ask → AreHanded s ds → Works (past_of s mount) owed.ask new
      → AreHanded (service_stepped s mount new next) (ds ++ hands_deed chunk s owed ∷ [])
  after_hand s ds mount owed new next x o owes pends h (Writes k server span sectors answer of is) =
      subst (λ (n : PortPast). AreHanded (service_stepped s mount n next) (ds ++ hands_deed chunk s owed ∷ [])) (sym is) (hand_write s ds mount owed next x o owes pends h server span answer k sectors of)
  after_hand s ds mount owed new next x o owes pends h (Fetches k server span answer of is) =
      subst (λ (n : PortPast). AreHanded (service_stepped s mount n next) (ds ++ hands_deed chunk s owed ∷ [])) (sym is) (hand_read s ds mount owed next x o owes pends h server span answer k of)

  -- a step that is no event
  pub same_lists : {X : Type 0} → (f : ℕ → ℕ → List X) (one two e m : ℕ) → twice f one two (f one two) e m ≡ f e m
  same_lists f one two e m = elim (cases_eq e one) [
    | inl is ↦ elim (cases_eq m two) [
      | inl also ↦ ap (λ i. twice f one two (f one two) i m) is ∙ ap (twice f one two (f one two) one) also ∙ twice_here f one two (f one two) ∙ ap (f one) (sym also) ∙ ap (λ i. f i m) (sym is)
      | inr other ↦ twice_off f one two (f one two) e m (λ _ same. other same)
    ]
    | inr other ↦ twice_off f one two (f one two) e m (λ same _. other same)
  ]

  pub handed : (s : Service) (ds : List Deed) → ChunkIsServed chunk s ds → AreHanded s ds
  handed _ _ (Opens setup history) = record {
    write = λ e m k a at. absurd (none-some a at);
    read = λ e m k f at. absurd (none-some f at);
    hand = λ i client its e place at. absurd (none-some _ at);
  }
  handed _ _ (Grows s ds epoch more served) = handed_on s (service_grown s epoch more) ds (grown_goes s epoch more) (driven chunk s ds served) (λ e m. refl) (λ e m. refl) (handed s ds served)
  handed _ _ (Passes s ds served) = handed_more s ds no_deed (λ client its e place is. cc) (handed s ds served)
  handed _ _ (Asks s ds mount client ask of at none served) =
      handed_more (service_asked s mount client (length ds) ask) ds (Takes client None (Some (port_ask ask))) (λ its other e place is. cc)
      (handed_on s (service_asked s mount client (length ds) ask) ds (asked_goes s mount client (length ds) ask) (driven chunk s ds served) (λ e m. refl) (λ e m. refl) (handed s ds served))
  handed _ _ (Hands s ds mount owed new next step one served) =
      after_hand s ds mount owed new next (driven chunk s ds served) (owes chunk s ds served) step.owes step.step.pending (handed s ds served)
      (worked (s.setup s.epoch) (past_of s mount) (s.port mount) owed.ask next new step.step one)
  handed _ _ (Hears s ds mount owed reply answer next step by served) =
      handed_more (service_stepped s mount (past_of s mount) next) ds (hears_deed s owed answer reply) (λ its other e place is. cc)
      (handed_on s (service_stepped s mount (past_of s mount) next) ds (stepped_goes s mount (past_of s mount) next (whole_prefix (s.history s.epoch))) (driven chunk s ds served)
      (same_lists s.writes s.epoch mount) (same_lists s.reads s.epoch mount) (handed s ds served))
  handed _ _ (Moves s ds setup history rests served) =
      handed_on s (service_moved s setup history) ds (moved_goes s setup history rests) (driven chunk s ds served) (λ e m. refl) (λ e m. refl) (handed s ds served)
  handed _ _ (Switches s ds moving served) =
      handed_on s (service_switched s) ds (switched_goes s moving (moved_once chunk s ds served moving)) (driven chunk s ds served) (λ e m. refl) (λ e m. refl) (handed s ds served)
