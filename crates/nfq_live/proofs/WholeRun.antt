-- A whole run: how it begins, and what the closed plane gives of it.
use Rattle.std.proofs.Common.{◌≡◌, ◌≤◌, ◌<◌, ◌+◌, ◌⊎◌, ◌∙◌, ◌++◌, ◌∷◌, [], ℕ, List, true, false, ap}
use Rattle.std.proofs.Common.{append-nil}
use Rattle.std.proofs.Common.{arith, inl, inr, length, map, refl, subst, suc, sym, zero}
use Rattle.std.specs.Prelude.{All, Bool, Err, IfSome, Ok, OnOk, Option, Result, Some, count_by}
use Rattle.std.specs.Prelude.{nat_eq, slice_index, sum_by}
use Rattle.hook_chain.specs.Rules.{RuleTables}
use Rattle.std.specs.List.{list_any}
use Rattle.std.proofs.lemmas.Bool.{cases_Bool, eq-eqb, ne_eqb}
use Rattle.std.proofs.lemmas.List.Elements.{All-head, All-tail}
use Rattle.mailbox.specs.Roles.{AreDistinct}
use Rattle.packet_entry.specs.declared.packet.Card.{Card}
use Rattle.pcap_io.specs.declared.capture.Capture.{Capture}
use Rattle.glance.specs.Views.{PassView}
use Rattle.histories.specs.declared.entry.Entry.{Entry}
use Rattle.histories.specs.declared.histories.Histories.{Histories}
use Rattle.histories.specs.declared.histories.Lost.{Lost}
use Rattle.histories.specs.Moves.{Move, moves}
use Rattle.histories.specs.Journeys.{AreSound, Arrival, asks, entering, times_came, visit_of}
use Rattle.histories.specs.Lengths.{AreShort}
use Rattle.histories.specs.Numbers.{queue_count}
use Rattle.inspector_script.specs.Scripts.{ScriptValue}
use Rattle.run_parts.specs.Log.{Note}
use Rattle.run_parts.specs.Ports.{is_port}
use Rattle.packet_moves.specs.declared.setting.Setting.{Setting}
use Rattle.place_rows.specs.Ending.{all_fed}
use Rattle.plane.specs.declared.plane.Plane.{Plane}
use Rattle.plane.specs.Closings.{IsClosed, all_holders, port_holds}
use Rattle.plane.specs.Opening.{IsOpened}
use Rattle.plane.specs.Passes.{FeederView, PortView}
use Rattle.plane.specs.Planes.{board_of, order_of, places_of, setting_of}
use Rattle.plane.specs.Remaining.{times_in}
use Rattle.live_runs.specs.Laws.{MakesHistories}
use Rattle.live_runs.specs.ClosedPlanes.{IsClosedPlane, sent_by_all}
use Rattle.live_runs.specs.Meetings.{ArePorts, IsNew, IsOpenTo}
use Rattle.live_runs.specs.Owners.{IsFeeding}
use Rattle.live_runs.specs.Passes.{Pass, feeder_number, is_pass}
use Rattle.live_runs.specs.Seen.{Seen}
use Rattle.live_runs.specs.Stands.{Stand, unopened}
use Rattle.live_runs.specs.Sums.{WasSent}
use Rattle.live_passes.specs.Numbered.{AreAll, passes_in}
use Rattle.nfq_live.specs.declared.crew.Crew.{Crew}
use Rattle.live_work.specs.declared.feeding.Feeding.{Feeding}
use Rattle.nfq_live.specs.Crews.{AreOpenFrom, AreReceived, IsCrewOf, passes_of}
use Rattle.nfq_live.specs.Endings.{IsAtMeeting, stage_before}
use Rattle.nfq_live.specs.Openings.{HaveOpened}
use Rattle.nfq_live.specs.Feeders.{AreTheSame}
use Rattle.nfq_live.specs.Run.{IsLiveRunBy}
use Rattle.nfq_live.specs.Sizes.{Size, size_of}
use Rattle.live_work.proofs.PortMinds.{within_ports}
use Rattle.nfq_live.proofs.CrewSteps.{IsMadeOf, crew_of, passes_made}
use Rattle.nfq_live.proofs.PortEndMeeting.{all_done}

-- ---- the laws

abbrev pub AllOpenedLaw : Type 0
AllOpenedLaw = (places : ℕ) (order : List ℕ) (s : Setting) (plane : Plane)
    (feeder : FeederView) (ports : List PortView) (gauge : PassView) →
    AreDistinct order → list_any (nat_eq feeder_number) order ≡ false →
    IsOpened places order s plane feeder ports gauge → AreAll plane feeder ports []

abbrev pub NewOpenedLaw : Type 0
NewOpenedLaw = (places : ℕ) (order : List ℕ) (s : Setting) (plane : Plane)
    (feeder : FeederView) (ports : List PortView) (gauge : PassView) →
    AreDistinct order → IsOpened places order s plane feeder ports gauge →
    (p : ℕ) → is_pass order p ≡ true → IsNew (passes_in feeder ports p)

abbrev pub NoneOpenLaw : Type 0
NoneOpenLaw = (workers : ℕ) (script : ScriptValue) (places : ℕ) (passes : ℕ → Pass) →
    ((p : ℕ) → is_pass script.ports p ≡ true → IsNew (passes p)) →
    IsOpenTo workers script places 0 passes (λ p. []) (unopened script)

abbrev pub AtLastLaw : Type 0
AtLastLaw = (workers : ℕ) (script : ScriptValue) (places mail port sum : ℕ)
    (passes : ℕ → Pass) (h : Histories) (notes : ℕ → List Note) (stands : ℕ → Stand) →
    is_port script port ≡ true → ArePorts workers script places passes notes stands →
    IsClosedPlane script.ports mail places passes h →
    WasSent workers script places port sum passes →
    sent_by_all script.ports places passes port ≡ sum

-- ---- the ports' numbers

-- none of them is the feeder's
pub no_zero : (ports : List ℕ) → All (λ (port : ℕ). 1 ≤ port) ports →
    list_any (nat_eq feeder_number) ports ≡ false
no_zero [] all = refl
no_zero (p ∷ ports) all =
    let least : 1 ≤ p = All-head (λ (port : ℕ). 1 ≤ port) p ports all in
    rw (ne_eqb feeder_number p (λ same. absurd (omega (arith, same, least))))
    (no_zero ports (All-tail (λ (port : ℕ). 1 ≤ port) p ports all))

pub each_is_there : (ports : List ℕ) (i : ℕ) → i < length ports →
    list_any (nat_eq (slice_index ports i)) ports ≡ true
each_is_there [] i less = absurd (omega (arith, less))
each_is_there (p ∷ ports) zero less = rw (eq-eqb p p refl) refl
each_is_there (p ∷ ports) (suc i) less =
    let more : suc i < suc (length ports) = less in
    by (cases_Bool (nat_eq (slice_index ports i) p)) (each_is_there ports i (omega (arith, more)))
  where
    by : (nat_eq (slice_index ports i) p ≡ true) ⊎ (nat_eq (slice_index ports i) p ≡ false) →
        list_any (nat_eq (slice_index ports i)) ports ≡ true →
        list_any (nat_eq (slice_index ports i)) (p ∷ ports) ≡ true
    by (inl h) is = rw h refl
    by (inr h) is = rw h is

-- ---- a plane was opened

module _ (script : ScriptValue) (s : Setting) (plane : Plane) (feeder : FeederView)
    (ports : List PortView) (gauge : PassView)
    (o : IsOpened (places_of plane) script.ports s plane feeder ports gauge) where
  distinct : AreDistinct script.ports
  distinct = subst (λ (l : List ℕ). AreDistinct l) o.order_is plane.apart

  pub opened_crew : AllOpenedLaw → (feeding : Feeding) (c : Crew) →
      list_any (nat_eq feeder_number) script.ports ≡ false → feeding.pass ≡ feeder →
      feeding.gauge ≡ Some gauge → IsMadeOf c feeding ports [] → IsCrewOf plane c
  opened_crew law feeding c none feeds looks made =
      crew_of plane c feeding ports [] made
      (subst (λ (f : FeederView). AreAll plane f ports []) (sym feeds)
      (law (places_of plane) script.ports s plane feeder ports gauge distinct none o))
      (record {
        looks = subst (λ (seen : Option PassView).
            IfSome seen (λ (g : PassView). g.board ≡ board_of plane)) (sym looks)
            (ap (λ (g : PassView). g.board) o.looks);
      })

  new_pass : NewOpenedLaw → (feeding : Feeding) (c : Crew) → feeding.pass ≡ feeder →
      IsMadeOf c feeding ports [] → (p : ℕ) → is_pass script.ports p ≡ true →
      IsNew (passes_of c p)
  new_pass law feeding c feeds made p is =
      subst (λ (q : Pass). IsNew q)
      (sym (passes_made c feeding ports [] made p
      ∙ ap (λ (f : FeederView). passes_in f (ports ++ []) p) feeds
      ∙ ap (λ (l : List PortView). passes_in feeder l p) (append-nil ports)))
      (law (places_of plane) script.ports s plane feeder ports gauge distinct o p is)

  pub none_opened : NewOpenedLaw → NoneOpenLaw → IsFeeding 0 [] [] → (feeding : Feeding)
      (c : Crew) → feeding.pass ≡ feeder → IsMadeOf c feeding ports [] →
      HaveOpened script (places_of plane) 0 c
  none_opened law opens begins feeding c feeds made = record {
    opened = λ workers. record {
      notes = λ p. [];
      stands = unopened script;
      open_to = opens workers script (places_of plane) (passes_of c)
          (λ p is. new_pass law feeding c feeds made p is);
    };
    early = λ k less. subst (λ (xs : List Seen). IsFeeding 0 [] xs)
        (sym ((new_pass law feeding c feeds made feeder_number refl).shares k)) begins;
    none_fed = ap (λ (f : Feeding). f.pass.fed) made.feeding_is
        ∙ ap (λ (f : FeederView). f.fed) feeds ∙ o.none_fed;
    in_order = ap (λ (l : List PortView). map (λ (p : PortView). p.port) l) made.ports_are
        ∙ o.ports_are;
    none_closed = made.closed_are;
  }

-- ---- all frames have passed

-- where no port has ended all are open
pub all_open : (script : ScriptValue) (places : ℕ) (size : Size) (c : Crew) →
    IsAtMeeting script places size 0 c → AreOpenFrom script 0 c
all_open script places size c m p least less =
    let is = each_is_there script.ports p less in
    m.are_open (slice_index script.ports p) is
    ∙ ap (λ (t : Stand). t.is_open)
    (m.ended.behind (slice_index script.ports p) is (omega arith))

-- ---- the plane was closed

pub live_run : AtLastLaw → MakesHistories → (workers feeders : ℕ) (script : ScriptValue)
    (places : ℕ) (capture : Capture) (c : Crew) (h : Histories) → 0 < places →
    IsAtMeeting script places (size_of workers feeders capture) (length script.ports) c →
    AreReceived script.ports places c →
    IsClosedPlane script.ports script.mail places (passes_of c) h →
    IsLiveRunBy workers feeders script capture h
live_run at_last law workers feeders script places capture c h some m received closed = record {
  notes = m.notes;
  made = law workers feeders script places (length capture.frames)
      (stage_before (length script.ports)) (passes_of c) h m.notes m.stands some closed
      m.ended.meeting
      (λ port is. all_done script places (size_of workers feeders capture) c m port is
      (within_ports port script.ports is))
      m.ended.fed
      (λ port is. by port is (cases_Bool (m.stands port).is_open));
}
  where
    by : (port : ℕ) → is_port script port ≡ true →
        ((m.stands port).is_open ≡ true) ⊎ ((m.stands port).is_open ≡ false) →
        sent_by_all script.ports places (passes_of c) port ≡ length (passes_of c port).letters
    by port is (inl h_open) = received.all port (m.are_open port is ∙ h_open)
    by port is (inr h_shut) =
        at_last workers script places script.mail port (length (passes_of c port).letters)
        (passes_of c) h m.notes m.stands is m.ended.meeting.are closed
        (m.ended.sums port is h_shut)

-- only the feeder fed
none_fed_by : (ps : List PortView) → all_fed (map port_holds ps) ≡ []
none_fed_by [] = refl
none_fed_by (p ∷ ps) = none_fed_by ps

pub fed_by_all : (feeder : FeederView) (ps : List PortView) →
    all_fed (all_holders feeder ps) ≡ feeder.fed
fed_by_all feeder ps =
    ap (λ (l : List Card). feeder.fed ++ l) (none_fed_by ps) ∙ append-nil feeder.fed

-- of the same packets, in whatever order
sound_same : (tables : RuleTables) (key : ℕ) (one two : List Card) (h : Histories) →
    AreTheSame one two → AreSound tables key one h.entries h.lost →
    AreSound tables key two h.entries h.lost
sound_same tables key one two h same sound = record {
  asked = λ test. subst (λ (n : ℕ).
      times_came test (moves h.entries) + count_by test []
      ≤ n + sum_by (λ (m : Move). count_by test (asks tables key m)) (moves h.entries))
      (same (λ (c : Card). count_by test (entering tables key c))) (sound.asked test);
  met = λ test. subst (λ (n : ℕ).
      times_came (λ (a : Arrival). test (visit_of a)) (moves h.entries)
      + count_by (λ (a : Arrival). test (visit_of a)) [] + count_by test h.lost
      ≡ n + sum_by (λ (m : Move). count_by (λ (a : Arrival). test (visit_of a))
      (asks tables key m)) (moves h.entries))
      (same (λ (c : Card). count_by (λ (a : Arrival). test (visit_of a)) (entering tables key c)))
      (sound.met test);
  first = sound.first;
}

pub sound_for : (plane : Plane) (s : Setting) (feeder : FeederView) (ps : List PortView)
    (h : Histories) (fed : List Card) → IsClosed plane feeder ps h → setting_of plane ≡ s →
    AreTheSame feeder.fed fed → AreSound s.tables s.key fed h.entries h.lost
sound_for plane s feeder ps h fed closed setting is =
    subst (λ (t : Setting). AreSound t.tables t.key fed h.entries h.lost) setting
    (sound_same (setting_of plane).tables (setting_of plane).key feeder.fed fed h is
    (subst (λ (l : List Card). AreSound (setting_of plane).tables (setting_of plane).key l
    h.entries h.lost) (fed_by_all feeder ps)
    (subst (λ (l : List Lost). AreSound (setting_of plane).tables (setting_of plane).key
    (all_fed (all_holders feeder ps)) h.entries l) (sym closed.lost) closed.entries.sound)))

-- ---- what is known of the closed plane

abbrev pub ClosedPlaneLaw : Type 0
ClosedPlaneLaw = (plane : Plane) (feeder : FeederView) (ports closed : List PortView)
    (h : Histories) → AreAll plane feeder ports closed →
    IsClosed plane feeder (ports ++ closed) h →
    All (λ (e : Entry). e.queue < queue_count) h.entries →
    IsClosedPlane (order_of plane) (setting_of plane).mail (places_of plane)
    (passes_in feeder (ports ++ closed)) h

pub closed_run : ClosedPlaneLaw → (plane : Plane) (script : ScriptValue) (s : Setting)
    (c : Crew) (h : Histories) → order_of plane ≡ script.ports → setting_of plane ≡ s →
    s.mail ≡ script.mail → IsCrewOf plane c →
    IsClosed plane c.feeding.pass (c.ports.items ++ c.closed.items) h →
    All (λ (e : Entry). e.queue < queue_count) h.entries →
    IsClosedPlane script.ports script.mail (places_of plane) (passes_of c) h
closed_run law plane script s c h order setting mail crew closed short =
    subst (λ (l : List ℕ). IsClosedPlane l script.mail (places_of plane) (passes_of c) h) order
    (subst (λ (n : ℕ). IsClosedPlane (order_of plane) n (places_of plane) (passes_of c) h)
    (ap (λ (t : Setting). t.mail) setting ∙ mail)
    (law plane c.feeding.pass c.ports.items c.closed.items h crew.all closed short))

-- the plane was closed with the crew's passes, which were lists of their own
pub closed_by : (plane : Plane) (feeder : FeederView) (xs ps ys cs : List PortView)
    (h : Histories) → xs ≡ ps → ys ≡ cs → IsClosed plane feeder (xs ++ ys) h →
    IsClosed plane feeder (ps ++ cs) h
closed_by plane feeder xs ps ys cs h are_open are_shut is =
    subst (λ (l : List PortView). IsClosed plane feeder (l ++ cs) h) are_open
    (subst (λ (l : List PortView). IsClosed plane feeder (xs ++ l) h) are_shut is)

abbrev pub ShortLaw : Type 0
ShortLaw = (workers : ℕ) (script : ScriptValue) (places mail : ℕ) (passes : ℕ → Pass)
    (h : Histories) (notes : ℕ → List Note) (stands : ℕ → Stand) → 0 < places →
    IsClosedPlane script.ports mail places passes h →
    ArePorts workers script places passes notes stands → AreShort h.entries

pub short_for : ShortLaw → (script : ScriptValue) (places : ℕ) (size : Size) (c : Crew)
    (h : Histories) → 0 < places → IsAtMeeting script places size (length script.ports) c →
    IsClosedPlane script.ports script.mail places (passes_of c) h → AreShort h.entries
short_for law script places size c h some m closed =
    law size.workers script places script.mail (passes_of c) h m.notes m.stands some closed
    m.ended.meeting.are

-- what holds whether it went well or not
pub at_any : {X E : Type 0} (r : Result X E) (P : Type 0) → P → OnOk r P
at_any (Ok y) P is = is
at_any (Err e) P is = tt

-- each port is at most once among those that are open or closed
pub once_each : (plane : Plane) (feeder : FeederView) (ports closed : List PortView) →
    AreAll plane feeder ports closed → (port : ℕ) → times_in port (ports ++ closed) ≤ 1
once_each plane feeder ports closed all port =
    by_test (list_any (nat_eq port) (order_of plane)) refl
  where
    by_test : (b : Bool) → list_any (nat_eq port) (order_of plane) ≡ b →
        times_in port (ports ++ closed) ≤ 1
    by_test true e = let one = all.each port e in omega arith
    by_test false e = let none = all.nobody port e in omega arith
