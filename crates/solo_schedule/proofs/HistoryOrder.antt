-- Order: a run keeps the histories in order.
use Rattle.std.proofs.Common.{◌≡◌, ◌⊎◌, ◌∙◌, ℕ, List, [], ◌∷◌, ◌++◌, Bool}
use Rattle.std.proofs.Common.{◌≤◌}
use Rattle.std.proofs.Common.{true, false, refl, sym, ap, subst, inl, inr, arith}
use Rattle.std.proofs.Common.{append-nil}
use Rattle.std.specs.Prelude.{map, length, not, ◌==◌, if◌then◌else◌}
use Rattle.std.proofs.lemmas.Bool.{cases_Bool, eqb-true, ne_eqb, eq-eqb}
use Rattle.packet_entry.specs.declared.letter.Letter.{Letter}
use Rattle.netlink_codec.specs.Messages.{NetlinkMessage}
use Rattle.nfqa_msgs.specs.declared.request.Request.{Request}
use Rattle.nfqa_msgs.specs.declared.request.Decoded.{Decoded}
use Rattle.nfqa_msgs.specs.declared.request.Decoded.TheVariants.{Nothing, Refused, Asked}
use Rattle.nfqa_msgs.specs.RequestReading.{decoded}
use Rattle.queue_core.specs.declared.event.Event.TheVariants.{Ask}
use Rattle.histories.specs.declared.entry.Entry.{Entry}
use Rattle.histories.specs.States.{entry_of}
use Rattle.histories.specs.Journeys.{Arrival}
use Rattle.histories.specs.Happenings as happening
use Rattle.inspector_script.specs.Scripts.{ScriptValue}
use Rattle.packet_moves.specs.declared.setting.Setting.{Setting}
use Rattle.packet_moves.specs.World.{World}
use Rattle.packet_moves.specs.Moving.{arrived, room_for}
use Rattle.run_parts.specs.Underway.{AllOrdered, IsNow, Told}
use Rattle.solo_schedule.specs.Sending.{carried_out, errno_of}
use Rattle.run_parts.specs.Log.{Note, Got, Begun, Spoke, Shut}
use Rattle.run_parts.specs.Log.{Due, Standing, start, after, standing}
use Rattle.run_parts.specs.Log.{is_some_due}
use Rattle.run_parts.specs.Requests.{Plea, plea_of, pleas_told}
use Rattle.run_parts.specs.Ports.{place_in}
use Rattle.run_parts.specs.Order.{Kind, Answers, kind_by, kind_at}
use Rattle.run_parts.specs.Order.{kinds_told, early_by, late_by, late_asked}
use Rattle.solo_schedule.proofs.DueMessages.{Stage, IsOver, MayArrive, MaySpeak, Goes, MayEnter}
use Rattle.solo_schedule.proofs.DueMessages.{with_fed}
use Rattle.solo_schedule.proofs.RunSteps.{LogLaws}
use Rattle.solo_schedule.proofs.RunSteps.{noted, is_in}
use Rattle.solo_schedule.proofs.EmptyStart.{NoneWaits}
use Rattle.solo_schedule.proofs.OwingPorts.{Owes, AllOwe, has_received, quiet_owes, got_owes}
use Rattle.solo_schedule.proofs.OwingPorts.{noted_owe}
use Rattle.solo_schedule.proofs.MessageEffects.{Below, arrival_none, ask_none, closings_none}
use Rattle.solo_schedule.proofs.MessageEffects.{downs_none}
use Rattle.solo_schedule.proofs.MessageEffects.{either_so, asked_so, opens_none}

-- the kind of a message that a port's request is
abbrev own_kinds : ℕ → ℕ → Kind → List Plea → List Kind
own_kinds p port k pleas = if p == port then map (λ (x : Plea). k) pleas else []

nothing_more : (c : Bool) (ks : List Kind) → ks ≡ ks ++ (if c then [] else [])
nothing_more true ks = sym (append-nil ks)
nothing_more false ks = sym (append-nil ks)

module _ (script : ScriptValue) where
  abbrev place : ℕ → ℕ
  place p = place_in p script.ports

  abbrev pub told : (ℕ → List Note) → Told
  told notes queue p = kinds_told 1 script queue p (notes p)

  abbrev kind_of : (ℕ → List Note) → ℕ → Kind
  kind_of notes port = kind_at (standing 1 script (place port) port (notes port))

  told_then : LogLaws → (notes : ℕ → List Note) (port : ℕ) (n : Note) (queue p : ℕ) →
      told notes queue p ++ own_kinds p port (kind_of notes port) (pleas_told queue n)
      ≡ told (noted port n notes) queue p
  told_then laws notes port n queue p = by (cases_Bool (p == port))
    where
      own : (q : ℕ) → p ≡ q →
          told notes queue p ++ map (λ (x : Plea). kind_of notes q) (pleas_told queue n)
          ≡ kinds_told 1 script queue p (notes p ++ n ∷ [])
      own q same = subst (λ q. told notes queue p
          ++ map (λ (x : Plea). kind_of notes q) (pleas_told queue n)
          ≡ kinds_told 1 script queue p (notes p ++ n ∷ [])) same
          (sym (laws.kinds script (place p) p queue (start script (place p)) (notes p) n))

      by : ((p == port) ≡ true) ⊎ ((p == port) ≡ false) →
          told notes queue p ++ own_kinds p port (kind_of notes port) (pleas_told queue n)
          ≡ told (noted port n notes) queue p
      by (inl h) = rw h (own port (eqb-true p port h))
      by (inr h) = rw h (append-nil (told notes queue p))

  quiet_told : LogLaws → (notes : ℕ → List Note) (port : ℕ) (n : Note) →
      ((queue : ℕ) → pleas_told queue n ≡ []) → (queue p : ℕ) →
      told notes queue p ≡ told (noted port n notes) queue p
  quiet_told laws notes port n none queue p =
      nothing_more (p == port) (told notes queue p)
      ∙ ap (λ (ps : List Plea). told notes queue p ++ own_kinds p port (kind_of notes port) ps)
      (sym (none queue))
      ∙ told_then laws notes port n queue p

  -- ---- a message is of the stage

  fit : (st : Stage) (port call : ℕ) (r : Request) (at_end : Bool) (owed : List Due)
      (received : Bool) → MaySpeak script st (place port) at_end →
      is_some_due owed ≡ not at_end →
      (st.is_over ≡ true → (owed ≡ []) ⊎ (received ≡ true)) →
      (st.is_over ≡ false → received ≡ false) →
      (early_by script.ports (kind_by owed received) (Ask port call r) ≡ st.early)
      × IsNow st.late (late_asked script.ports port (kind_by owed received))
  fit st port call r true [] received may due over early =
      (sym may.0.1, inr (ap (λ k. k ∷ []) (sym may.1)))
  fit st port call r true (d ∷ ds) received may due over early = absurd (cc)
  fit st port call r false [] received may due over early = absurd (cc)
  fit st port call r false (d ∷ ds) true (inl is) due over early = (sym is.1, inl refl)
  fit st port call r false (d ∷ ds) false (inl is) due over early =
      absurd (wrong (over is.0))
    where
      wrong : (d ∷ ds ≡ []) ⊎ (false ≡ true) → ⊥
      wrong (inl is) = cc
      wrong (inr is) = cc
  fit st port call r false (d ∷ ds) true (inr not_yet) due over early =
      let wrong = early not_yet.0 in absurd (cc)
  fit st port call r false (d ∷ ds) false (inr not_yet) due over early =
      (sym not_yet.1, inl refl)

  owes_over : (b : Bool) (t : Standing) → Owes b t → b ≡ true →
      (t.owed ≡ []) ⊎ (has_received t ≡ true)
  owes_over true t is so = is
  owes_over false t is wrong = absurd (cc)

  owes_early : (b : Bool) (t : Standing) → Owes b t → b ≡ false → has_received t ≡ false
  owes_early true t is wrong = absurd (cc)
  owes_early false t is so = is

  -- ---- what is kept

  pub record OrderSo (st : Stage) (es : List Entry) (notes : ℕ → List Note) : Type 0 where
    pub none : NoneWaits st.is_over es
    pub owe : AllOwe script place st.is_over notes
    pub order : AllOrdered script.ports st.early st.late (told notes) es

  -- histories in order, where these kinds are told
  record InOrder (st : Stage) (kinds : Told) (es : List Entry) : Type 0 where
    none : NoneWaits st.is_over es
    order : AllOrdered script.ports st.early st.late kinds es

  late_later : (late : ℕ) (a : Arrival) (room : Bool) → 2 ≤ a.card.visit →
      IsNow late (late_by script.ports Answers (happening.arrive a room))
  late_later late a room later =
      let no : (a.card.visit == 1) ≡ false =
      ne_eqb a.card.visit 1 (λ same. absurd (omega (arith, same, later))) in
      rw no (inl refl)

  late_first : (late : ℕ) (a : Arrival) (room : Bool) → a.card.visit ≡ 1 → late ≡ 0 →
      IsNow late (late_by script.ports Answers (happening.arrive a room))
  late_first late a room is none =
      let so : (a.card.visit == 1) ≡ true = eq-eqb a.card.visit 1 is in
      rw so (inr (ap (λ n. n ∷ []) (sym none)))

  module _ (laws : Below) (s : Setting) where
    arrival_order : (st : Stage) (kinds : Told) (w : World) (a : Arrival) →
        MayArrive script st w.entries a → InOrder st kinds w.entries →
        InOrder st kinds (arrived s w a).entries
    arrival_order st kinds w a may is =
        let room = room_for s w a in
        record {
          none = arrival_none laws.steps s script st w a may.over.0 (omega (arith, may.visit)) is.none;
          order = laws.ordered.other script.ports st.early st.late kinds w.entries
              (entry_of w.entries a.queue (happening.arrive a room)) (sym may.over.1)
              (late_later st.late a room may.visit) (λ p. refl) is.order;
        }

    enter_order : (st : Stage) (notes : ℕ → List Note) (w : World) (a : Arrival) →
        MayEnter script st a → OrderSo st w.entries notes →
        OrderSo (with_fed st a.card.number) (arrived s w a).entries notes
    enter_order st notes w a may is =
        let room = room_for s w a in
        record {
          none = arrival_none laws.steps s script st w a may.over.0 (omega (arith, may.visit)) is.none;
          owe = is.owe;
          order = laws.ordered.other script.ports st.early st.late (told notes) w.entries
              (entry_of w.entries a.queue (happening.arrive a room)) (sym may.over.1)
              (late_first st.late a room may.visit may.late) (λ p. refl) is.order;
        }

    -- with the kind of this message
    abbrev with_kind : Told → ℕ → ℕ → Kind → ℕ → Decoded → Told
    with_kind kinds port call k errno d queue p =
        kinds queue p ++ own_kinds p port k (plea_of queue call errno d)

    away : (queue : ℕ) (r : Request) (p port call errno : ℕ) (k : Kind) (ks : List Kind) →
        (happening.queue_of r == queue) ≡ false →
        ks ≡ ks ++ own_kinds p port k (plea_of queue call errno (Asked r))
    away queue r p port call errno k ks h = rw h (nothing_more (p == port) ks)

    here : (queue : ℕ) (r : Request) (p port call errno : ℕ) (k : Kind) (ks : List Kind) →
        (happening.queue_of r == queue) ≡ true →
        ks ++ map (λ (x : Plea). k)
        (if p == port then record { call = call; request = r; errno = errno } ∷ [] else [])
        ≡ ks ++ own_kinds p port k (plea_of queue call errno (Asked r))
    here queue r p port call errno k ks h = rw h (by (p == port))
      where
        x : Plea
        x = record { call = call; request = r; errno = errno }

        by : (c : Bool) → ks ++ map (λ (x : Plea). k) (if c then x ∷ [] else [])
            ≡ ks ++ (if c then map (λ (x : Plea). k) (x ∷ []) else [])
        by true = refl
        by false = refl

    carried_order : (st : Stage) (kinds : Told) (w : World) (port call : ℕ) (k : Kind)
        (d : Decoded) → IsOver script st ⊎ (st.is_over ≡ false) →
        ((r : Request) → (early_by script.ports k (Ask port call r) ≡ st.early)
        × IsNow st.late (late_asked script.ports port k)) →
        InOrder st kinds w.entries →
        InOrder st (with_kind kinds port call k (errno_of port call d w) d)
        (carried_out s port call d w).entries
    carried_order st kinds w port call k Nothing either fits is = record {
      none = is.none;
      order = laws.ordered.later script.ports st.early st.early st.late st.late kinds
          (with_kind kinds port call k 0 Nothing) w.entries (omega arith) (omega arith)
          (λ queue p. nothing_more (p == port) (kinds queue p)) is.order;
    }
    carried_order st kinds w port call k (Refused errno) either fits is = record {
      none = is.none;
      order = laws.ordered.later script.ports st.early st.early st.late st.late kinds
          (with_kind kinds port call k errno (Refused errno)) w.entries (omega arith) (omega arith)
          (λ queue p. nothing_more (p == port) (kinds queue p)) is.order;
    }
    carried_order st kinds w port call k (Asked r) either fits is =
        let errno = errno_of port call (Asked r) w in
        let more = with_kind kinds port call k errno (Asked r) in
        asked_so laws.steps s script st (λ es ports. InOrder st more es)
        (λ v a may is. arrival_order st more v a may is) w port call r either is.none (record {
          none = ask_none laws.steps s script st w port call r is.none;
          order = laws.ordered.entry script.ports st.early st.late kinds more w.entries
              (record {
                entry = entry_of w.entries (happening.queue_of r) (Ask port call r);
                kind = k;
              }) (fits r).0 (fits r).1
              (λ queue p h. away queue r p port call errno k (kinds queue p) h)
              (λ queue p h. here queue r p port call errno k (kinds queue p) h) is.order;
        })

    speaks_order : (st : Stage) (w : World) (notes : ℕ → List Note) (port call : ℕ)
        (m : NetlinkMessage) (at_end : Bool) → is_in script place port ≡ true →
        MaySpeak script st (place port) at_end →
        is_some_due (standing 1 script (place port) port (notes port)).owed ≡ not at_end →
        OrderSo st w.entries notes →
        OrderSo st (carried_out s port call (decoded m) w).entries
        (noted port (Spoke call m (errno_of port call (decoded m) w)) notes)
    speaks_order st w notes port call m at_end i may due is =
        let errno = errno_of port call (decoded m) w in
        let n = Spoke call m errno in
        let t = standing 1 script (place port) port (notes port) in
        let k = kind_of notes port in
        let so = carried_order st (told notes) w port call k (decoded m)
        (either_so laws.steps s script st (place port) at_end may)
        (λ r. fit st port call r at_end t.owed (has_received t) may due
        (owes_over st.is_over t (is.owe port i)) (owes_early st.is_over t (is.owe port i)))
        (record { none = is.none; order = is.order }) in
        record {
          none = so.none;
          owe = noted_owe script place laws.steps.log st.is_over notes port n
              (λ p t owes. quiet_owes script (place p) p st.is_over t n tt owes) is.owe;
          order = laws.ordered.later script.ports st.early st.early st.late st.late
              (with_kind (told notes) port call k errno (decoded m))
              (told (noted port n notes)) (carried_out s port call (decoded m) w).entries
              (omega arith) (omega arith)
              (λ queue p. told_then laws.steps.log notes port n queue p) so.order;
        }

    -- a note of no message
    quiet_order : (st : Stage) (es : List Entry) (notes : ℕ → List Note) (port : ℕ) (n : Note) →
        ((queue : ℕ) → pleas_told queue n ≡ []) →
        ((p : ℕ) (t : Standing) → Owes st.is_over t →
        Owes st.is_over (after 1 script (place p) p t n)) → OrderSo st es notes →
        OrderSo st es (noted port n notes)
    quiet_order st es notes port n none owes is = record {
      none = is.none;
      owe = noted_owe script place laws.steps.log st.is_over notes port n owes is.owe;
      order = laws.ordered.later script.ports st.early st.early st.late st.late (told notes)
          (told (noted port n notes)) es (omega arith) (omega arith)
          (quiet_told laws.steps.log notes port n none) is.order;
    }

    got_over : (b : Bool) → b ≡ true → (l : Letter) (p : ℕ) (t : Standing) →
        Owes b (after 1 script (place p) p t (Got l))
    got_over true is l p t = got_owes script (place p) p t l
    got_over false wrong l p t = absurd (cc)

    -- at a stage where all have opened, with what stands in a history
    early_is : (st : Stage) (notes : ℕ → List Note) (es : List Entry) → IsOver script st →
        AllOrdered script.ports st.early st.late (told notes) es →
        AllOrdered script.ports (length script.ports) st.late (told notes) es
    early_is st notes es over is =
        subst (λ e. AllOrdered script.ports e st.late (told notes) es) over.1 is

    closes_order : (st : Stage) (w : World) (notes : ℕ → List Note) (port : ℕ) →
        MaySpeak script st (place port) true → OrderSo st w.entries notes →
        OrderSo st (w.entries ++ happening.closings port w.entries) notes
    closes_order st w notes port may is = record {
      none = closings_none laws.steps s script st port w.entries is.none;
      owe = is.owe;
      order = subst (λ e. AllOrdered script.ports e st.late (told notes)
          (w.entries ++ happening.closings port w.entries)) (sym may.0.1)
          (laws.ordered.closing script.ports st.late port (told notes) w.entries may.1
          (early_is st notes w.entries may.0 is.order));
    }

    falls_order : (st : Stage) (w : World) (notes : ℕ → List Note) (device : ℕ) →
        IsOver script st → st.late ≡ 0 → OrderSo st w.entries notes →
        AllOrdered script.ports st.early st.late (told notes)
        (w.entries ++ happening.downs device w.entries)
    falls_order st w notes device over late is =
        let es = w.entries ++ happening.downs device w.entries in
        subst (λ e. AllOrdered script.ports e st.late (told notes) es) (sym over.1)
        (subst (λ l. AllOrdered script.ports (length script.ports) l (told notes) es) (sym late)
        (laws.ordered.devices script.ports device (told notes) w.entries
        (subst (λ l. AllOrdered script.ports (length script.ports) l (told notes) w.entries) late
        (early_is st notes w.entries over is.order))))

    pub order_goes : Goes s script place (λ st es ports notes. OrderSo st es notes)
    order_goes = record {
      log = laws.steps.log;
      arrives = λ st w notes a may is.
          let so = arrival_order st (told notes) w a may
          (record { none = is.none; order = is.order }) in
          record { none = so.none; owe = is.owe; order = so.order };
      enters = λ st w notes a may is. enter_order st notes w a may is;
      begins = λ st es ports notes port i is. quiet_order st es notes port Begun (λ queue. refl)
          (λ p t owes. quiet_owes script (place p) p st.is_over t Begun tt owes) is;
      speaks = λ st w notes port call m at_end i op may due is.
          speaks_order st w notes port call m at_end i may due is;
      gets = λ st w notes port held l ls i op over there mail is.
          quiet_order st w.entries notes port (Got l) (λ queue. refl)
          (λ p t owes. got_over st.is_over over.0 l p t) is;
      closes = λ st w notes port i op may is.
          quiet_order st (w.entries ++ happening.closings port w.entries) notes port Shut
          (λ queue. refl) (λ p t owes. quiet_owes script (place p) p st.is_over t Shut tt owes)
          (closes_order st w notes port may is);
      falls = λ st w notes d over late time is. record {
        none = downs_none laws.steps s script st d.device w.entries is.none;
        owe = is.owe;
        order = falls_order st w notes d.device over late is;
      };
      goes_on = λ st u es ports notes follows same is. record {
        none = subst (λ b. NoneWaits b es) same is.none;
        owe = subst (λ b. AllOwe script place b notes) same is.owe;
        order = laws.ordered.later script.ports st.early u.early st.late u.late (told notes)
            (told notes) es follows.early follows.late (λ queue p. refl) is.order;
      };
      opens_up = λ st u es ports notes follows over idle is. record {
        none = subst (λ b. NoneWaits b es) (sym over.0)
            (opens_none laws.steps s script st es is.none);
        owe = subst (λ b. AllOwe script place b notes) (sym over.0) (λ p i. inl (idle p i));
        order = laws.ordered.later script.ports st.early u.early st.late u.late (told notes)
            (told notes) es follows.early follows.late (λ queue p. refl) is.order;
      };
    }
