-- Room: each move keeps that a mailbox was full where an arrival found no room.
use Rattle.std.proofs.Common.{◌≡◌, ◌≤◌, ◌⊎◌, ◌∙◌, ℕ, List, [], ◌∷◌, ◌++◌, Option, Some, None, Bool}
use Rattle.std.proofs.Common.{true, false, refl, sym, ap, subst, inl, inr, length}
use Rattle.std.proofs.Common.{arith, length-append, append-nil}
use Rattle.std.specs.Prelude.{◌==◌, not, ◌&&◌, ◌||◌, nat_lt, if◌then◌else◌, option_map}
use Rattle.std.specs.List.{AllByRecursion}
use Rattle.std.proofs.lemmas.Bool.{cases_Bool, eqb-true, or_cases, and_parts, not-true}
use Rattle.std.proofs.lemmas.Bool.{ltb-false}
use Rattle.std.proofs.lemmas.List.Elements.{filter-append}
use Rattle.std.proofs.lemmas.List.Concat.{flat_map-append}
use Rattle.packet_entry.specs.declared.packet.Card.{Card}
use Rattle.packet_entry.specs.declared.letter.Letter.{Letter}
use Rattle.nfqa_msgs.specs.declared.request.Decoded.{Decoded}
use Rattle.nfqa_msgs.specs.declared.request.Decoded.TheVariants.{Nothing, Refused, Asked}
use Rattle.nfqa_msgs.specs.RequestReading.{decoded}
use Rattle.queue_core.specs.State.{Bound}
use Rattle.queue_core.specs.Step.{Way, step, is_decided_early}
use Rattle.queue_core.specs.declared.event.Event.TheVariants.{Ask}
use Rattle.histories.specs.declared.entry.Entry.{Entry}
use Rattle.histories.specs.declared.log.Did.TheVariants.{Sent}
use Rattle.histories.specs.History.{history, is_of, replay_from}
use Rattle.histories.specs.Journeys.{Arrival}
use Rattle.histories.specs.States.{entry_of, state_of}
use Rattle.histories.specs.Happenings as happening
use Rattle.histories.specs.Holding.{in_history}
use Rattle.packet_moves.specs.declared.setting.Setting.{Setting}
use Rattle.packet_moves.specs.World.{World, Port, received, received_from, having_done, closed}
use Rattle.packet_moves.specs.World.{changed_at, delivered}
use Rattle.packet_moves.specs.Moving.{arrived, room_for, has_room}
use Rattle.packet_moves.specs.Moving.{takes_one, with_notice, left_at_once}
use Rattle.packet_moves.specs.Messages.{asking, with_ask, words_of, answered}
use Rattle.solo_schedule.specs.Sending.{carried_out, errno_of}
use Rattle.run_parts.specs.Log.{Note, Got, Begun, Spoke, Shut}
use Rattle.run_parts.specs.Notices.{heard, heard_by}
use Rattle.histories.specs.Letters.{lacks_room, lacks_under}
use Rattle.run_parts.specs.Room.{some_lacks}
use Rattle.solo_schedule.proofs.OnwardPackets.{all_moved_keeps}
use Rattle.solo_schedule.proofs.RunSteps.{noted}
use Rattle.solo_schedule.proofs.DueMessages.{Keeps}
use Rattle.solo_schedule.proofs.EachEntry.{closings_hold, downs_hold}

-- an arrival at this queue found no room
abbrev pub lacking : ℕ → ℕ → List Entry → Bool
lacking p queue es = some_lacks p None (history queue es)

or_assoc : (a b c : Bool) → ((a || b) || c) ≡ (a || (b || c))
or_assoc true b c = refl
or_assoc false b c = refl

or_none : (a b : Bool) → b ≡ false → (a || b) ≡ a
or_none true b is = refl
or_none false b is = is

lacks_append : (p : ℕ) (q : Option Bound) (es fs : List Entry) →
    some_lacks p q (es ++ fs) ≡ (some_lacks p q es || some_lacks p (replay_from q es) fs)
lacks_append p q [] fs = refl
lacks_append p q (e ∷ es) fs =
    ap (λ b. lacks_under p q e || b) (lacks_append p (step q e.event).state es fs)
    ∙ sym (or_assoc (lacks_under p q e) (some_lacks p (step q e.event).state es)
    (some_lacks p (replay_from (step q e.event).state es) fs))

-- one entry more
lacks_push : (p queue : ℕ) (es : List Entry) (e : Entry) →
    lacking p queue (es ++ e ∷ [])
    ≡ (lacking p queue es
    || (if e.queue == queue then lacks_under p (state_of es e.queue) e else false))
lacks_push p queue es e =
    ap (some_lacks p None) (filter-append (is_of queue) es (e ∷ []))
    ∙ lacks_append p None (history queue es) (history queue (e ∷ []))
    ∙ ap (λ b. lacking p queue es || b) (by (cases_Bool (is_of queue e)))
  where
    by : (is_of queue e ≡ true) ⊎ (is_of queue e ≡ false) →
        some_lacks p (state_of es queue) (history queue (e ∷ []))
        ≡ (if e.queue == queue then lacks_under p (state_of es e.queue) e else false)
    by (inl h) =
        rw h (or_none (lacks_under p (state_of es queue) e) false refl
        ∙ ap (λ k. lacks_under p (state_of es k) e) (sym (eqb-true e.queue queue h)))
    by (inr h) = rw h refl

-- ---- entries that are no arrivals

abbrev IsCalm : Entry → Type 0
IsCalm e = lacks_room e.event ≡ false

abbrev pub AreCalm : List Entry → Type 0
AreCalm es = AllByRecursion IsCalm es

and_none : (a b : Bool) → b ≡ false → (a && b) ≡ false
and_none true b is = is
and_none false b is = refl

calm_none : (p : ℕ) (q : Option Bound) (es : List Entry) → AreCalm es → some_lacks p q es ≡ false
calm_none p q [] calm = refl
calm_none p None (e ∷ es) calm = calm_none p (step None e.event).state es calm.1
calm_none p (Some q) (e ∷ es) calm =
    ap (λ b. b || some_lacks p (step (Some q) e.event).state es)
    (and_none (p == q.port) (lacks_room e.event) calm.0)
    ∙ calm_none p (step (Some q) e.event).state es calm.1

lacks_stay : (p queue : ℕ) (es fs : List Entry) → AreCalm fs →
    lacking p queue (es ++ fs) ≡ lacking p queue es
lacks_stay p queue es fs calm =
    ap (some_lacks p None) (filter-append (is_of queue) es fs)
    ∙ lacks_append p None (history queue es) (history queue fs)
    ∙ or_none (lacking p queue es) (some_lacks p (state_of es queue) (history queue fs))
    (calm_none p (state_of es queue) (history queue fs) (in_history IsCalm queue fs calm))

-- ---- what is kept

module _ (mail : ℕ) where
  -- of a port that is there
  abbrev pub Roomy : ℕ → ℕ → List Entry → Option Port → List Note → Type 0
  Roomy p queue es None notes = Unit {0}
  Roomy p queue es (Some held) notes =
      lacking p queue es ≡ true → mail ≤ length (heard notes ++ held.letters)

  pub record AllRoomy (es : List Entry) (ports : ℕ → Option Port) (notes : ℕ → List Note)
      : Type 0 where
    pub each : (p queue : ℕ) → Roomy p queue es (ports p) (notes p)

  roomy_as : (p queue : ℕ) (es fs : List Entry) (o : Option Port) (notes : List Note) →
      lacking p queue fs ≡ lacking p queue es → Roomy p queue es o notes → Roomy p queue fs o notes
  roomy_as p queue es fs None notes same is = tt
  roomy_as p queue es fs (Some held) notes same is = λ lacks. is (sym same ∙ lacks)

  -- what a port received and has to receive doesn't get less
  roomy_more : (p queue : ℕ) (es : List Entry) (o : Option Port) (g : Port → Port)
      (notes more : List Note) →
      ((held : Port) → o ≡ Some held →
      length (heard notes ++ held.letters) ≤ length (heard more ++ (g held).letters)) →
      Roomy p queue es o notes → Roomy p queue es (option_map g o) more
  roomy_more p queue es None g notes more grows is = tt
  roomy_more p queue es (Some held) g notes more grows is =
      λ lacks. omega (arith, is lacks, grows held refl)

  calm_roomy : (es fs : List Entry) (ports : ℕ → Option Port) (notes : ℕ → List Note) →
      AreCalm fs → AllRoomy es ports notes → AllRoomy (es ++ fs) ports notes
  calm_roomy es fs ports notes calm is = record {
    each = λ p queue. roomy_as p queue es (es ++ fs) (ports p) (notes p)
        (lacks_stay p queue es fs calm) (is.each p queue);
  }

  -- a port does something
  done_roomy : (es : List Entry) (ports : ℕ → Option Port) (notes : ℕ → List Note) (port : ℕ)
      (n : Note) (g : Port → Port) →
      ((ns : List Note) (held : Port) → ports port ≡ Some held →
      length (heard ns ++ held.letters) ≤ length (heard (ns ++ n ∷ []) ++ (g held).letters)) →
      AllRoomy es ports notes → AllRoomy es (changed_at port g ports) (noted port n notes)
  done_roomy es ports notes port n g grows is = record {
    each = λ p queue. by p queue (cases_Bool (p == port)) (is.each p queue);
  }
    where
      by : (p queue : ℕ) → ((p == port) ≡ true) ⊎ ((p == port) ≡ false) →
          Roomy p queue es (ports p) (notes p) →
          Roomy p queue es (changed_at port g ports p) (noted port n notes p)
      by p queue (inl h) so =
          rw h (roomy_more p queue es (ports p) g (notes p) (notes p ++ n ∷ [])
          (λ held there. grows (notes p) held
          (ap ports (sym (eqb-true p port h)) ∙ there)) so)
      by p queue (inr h) so = rw h so

  -- ---- an arrival

  notice_roomy : (p queue : ℕ) (es : List Entry) (o : Option Bound) (a : Arrival)
      (left : List (Card × Way)) (ports : ℕ → Option Port) (notes : List Note) →
      Roomy p queue es (ports p) notes → Roomy p queue es (with_notice o a left ports p) notes
  notice_roomy p queue es None a left ports notes is = is
  notice_roomy p queue es (Some b) a (l ∷ ls) ports notes is = is
  notice_roomy p queue es (Some b) a [] ports notes is = by (p == b.port) _
    where
      by : (c : Bool) (letter : Letter) →
          Roomy p queue es (if c then option_map (delivered letter) (ports p) else ports p) notes
      by true letter =
          roomy_more p queue es (ports p) (delivered letter) notes notes
          (λ held there. omega (
            arith,
            length-append (heard notes) held.letters,
            length-append (heard notes) (held.letters ++ letter ∷ []),
            length-append held.letters (letter ∷ []),
          )) is
      by false letter = is

  -- without room the mailbox is full
  full_then : (p : ℕ) (o : Option Bound) (card : Card) (s : Setting) (w : World) (held : Port)
      (e : Entry) → s.mail ≡ mail → w.ports p ≡ Some held →
      lacks_room e.event ≡ not (has_room s w o card) → lacks_under p o e ≡ true →
      mail ≤ length held.letters
  full_then p None card s w held e same there room lacks = absurd (cc)
  full_then p (Some b) card s w held e same there room lacks =
      let parts = and_parts (p == b.port) (lacks_room e.event) lacks in
      let at : p ≡ b.port = eqb-true p b.port parts.0 in
      let full : (is_decided_early (Some b) card || takes_one s.mail (w.ports b.port)) ≡ false =
      not-true (has_room s w (Some b) card) (sym room ∙ parts.1) in
      let none : takes_one s.mail (w.ports b.port) ≡ false =
      second (is_decided_early (Some b) card) (takes_one s.mail (w.ports b.port)) full in
      let more : nat_lt (length held.letters) s.mail ≡ false =
      ap (takes_one s.mail) (sym there) ∙ ap (λ k. takes_one s.mail (w.ports k)) at ∙ none in
      omega (arith, ltb-false (length held.letters) s.mail more, same)
    where
      second : (x y : Bool) → (x || y) ≡ false → y ≡ false
      second true y wrong = absurd (cc)
      second false y is = is

module _ (s : Setting) where
  arrival_roomy : (w : World) (a : Arrival) (notes : ℕ → List Note) →
      AllRoomy s.mail w.entries w.ports notes →
      AllRoomy s.mail (arrived s w a).entries (arrived s w a).ports notes
  arrival_roomy w a notes is =
      let room = room_for s w a in
      let e = entry_of w.entries a.queue (happening.arrive a room) in
      record {
        each = λ p queue. notice_roomy s.mail p queue (w.entries ++ e ∷ [])
            (state_of w.entries a.queue) a (left_at_once w a room) w.ports (notes p)
            (of p queue (w.ports p) refl (is.each p queue));
      }
    where
      of : (p queue : ℕ) (o : Option Port) → w.ports p ≡ o →
          Roomy s.mail p queue w.entries o (notes p) →
          Roomy s.mail p queue
          (w.entries ++ entry_of w.entries a.queue (happening.arrive a (room_for s w a)) ∷ []) o
          (notes p)
      of p queue None there so = tt
      of p queue (Some held) there so = λ lacks.
          by (or_cases (lacking p queue w.entries)
          (if a.queue == queue
          then lacks_under p (state_of w.entries a.queue)
          (entry_of w.entries a.queue (happening.arrive a (room_for s w a))) else false)
          (sym (lacks_push p queue w.entries
          (entry_of w.entries a.queue (happening.arrive a (room_for s w a)))) ∙ lacks))
        where
          here : (c : Bool) → (if c
              then lacks_under p (state_of w.entries a.queue)
              (entry_of w.entries a.queue (happening.arrive a (room_for s w a))) else false)
              ≡ true →
              lacks_under p (state_of w.entries a.queue)
              (entry_of w.entries a.queue (happening.arrive a (room_for s w a))) ≡ true
          here true is = is
          here false wrong = absurd (cc)

          by : (lacking p queue w.entries ≡ true)
              ⊎ ((if a.queue == queue
              then lacks_under p (state_of w.entries a.queue)
              (entry_of w.entries a.queue (happening.arrive a (room_for s w a))) else false)
              ≡ true) →
              s.mail ≤ length (heard (notes p) ++ held.letters)
          by (inl was) = so was
          by (inr now) =
              let full = full_then s.mail p (state_of w.entries a.queue) a.card s w held
              (entry_of w.entries a.queue (happening.arrive a (room_for s w a))) refl there refl
              (here (a.queue == queue) now) in
              omega (arith, full, length-append (heard (notes p)) held.letters)

  carried_roomy : (w : World) (notes : ℕ → List Note) (port call : ℕ) (d : Decoded) →
      AllRoomy s.mail w.entries w.ports notes →
      AllRoomy s.mail (carried_out s port call d w).entries
      (carried_out s port call d w).ports notes
  carried_roomy w notes port call Nothing is = is
  carried_roomy w notes port call (Refused errno) is = is
  carried_roomy w notes port call (Asked r) is =
      all_moved_keeps s (λ es ports. AllRoomy s.mail es ports notes)
      (λ v a is. arrival_roomy v a notes is)
      (happening.all_handed (asking w port call r).left) (with_ask w port call r)
      (calm_roomy s.mail w.entries
      (entry_of w.entries (happening.queue_of r) (Ask port call r) ∷ [])
      w.ports notes (refl, tt) is)

-- a note that is no notice
same_length : (ns : List Note) (n : Note) (mail more : List Letter) → heard_by n ≡ [] →
    more ≡ mail → length (heard ns ++ mail) ≤ length (heard (ns ++ n ∷ []) ++ more)
same_length ns n mail more none same =
    let it : heard (ns ++ n ∷ []) ≡ heard ns =
    flat_map-append heard_by ns (n ∷ []) ∙ ap (λ ls. heard ns ++ (ls ++ [])) none
    ∙ append-nil (heard ns) in
    omega (arith, ap (λ ls. length (ls ++ more)) it, ap (λ m. length (heard ns ++ m)) same)

-- a notice that is received
got_length : (ns : List Note) (held : Port) (l : Letter) (ls mail : List Letter) → mail ≡ l ∷ ls →
    length (heard ns ++ mail)
    ≤ length (heard (ns ++ Got l ∷ []) ++ (received_from mail held).letters)
got_length ns held l ls mail is =
    subst (λ m. length (heard ns ++ m)
    ≤ length (heard (ns ++ Got l ∷ []) ++ (received_from m held).letters)) (sym is)
    (omega (
      arith,
      ap (λ hs. length (hs ++ ls)) (flat_map-append heard_by ns (Got l ∷ [])
          ),
      length-append (heard ns ++ (l ∷ [])) ls,
      length-append (heard ns) (l ∷ []),
      length-append (heard ns) (l ∷ ls),
    ))

begun_roomy : (mail : ℕ) (es : List Entry) (ports : ℕ → Option Port) (notes : ℕ → List Note)
    (port : ℕ) → AllRoomy mail es ports notes → AllRoomy mail es ports (noted port Begun notes)
begun_roomy mail es ports notes port is = record {
  each = λ p queue. by p queue (p == port) (ports p) (is.each p queue);
}
  where
    by : (p queue : ℕ) (c : Bool) (o : Option Port) → Roomy mail p queue es o (notes p) →
        Roomy mail p queue es o (if c then notes p ++ Begun ∷ [] else notes p)
    by p queue true None so = tt
    by p queue true (Some held) so = λ lacks.
        omega (arith, so lacks, same_length (notes p) Begun held.letters held.letters refl refl)
    by p queue false o so = so

pub roomy_kept : (s : Setting) → Keeps s (λ es ports notes. AllRoomy s.mail es ports notes)
roomy_kept s = record {
  arrives = λ w notes a is. arrival_roomy s w a notes is;
  begins = λ es ports notes port is. begun_roomy s.mail es ports notes port is;
  speaks = λ w notes port call m op is.
      let errno = errno_of port call (decoded m) w in
      let between = carried_out s port call (decoded m) w in
      done_roomy s.mail between.entries between.ports notes port (Spoke call m errno)
      (having_done (Sent call (words_of port call m.whole (decoded m)) (answered m errno)))
      (λ ns held there. same_length ns (Spoke call m errno) held.letters held.letters refl refl)
      (carried_roomy s w notes port call (decoded m) is);
  gets = λ w notes port held l ls op there mail is.
      done_roomy s.mail w.entries w.ports notes port (Got l) received
      (λ ns one at.
      let two : Some one ≡ Some held = sym at ∙ there in
      let same : one ≡ held = cc in
      got_length ns one l ls one.letters (ap (λ (p : Port). p.letters) same ∙ mail)) is;
  closes = λ w notes port op is.
      done_roomy s.mail (w.entries ++ happening.closings port w.entries)
      w.ports notes port Shut closed
      (λ ns held there. same_length ns Shut held.letters held.letters refl refl)
      (calm_roomy s.mail w.entries (happening.closings port w.entries) w.ports notes
      (closings_hold IsCalm port (λ k b. refl) w.entries) is);
  falls = λ w notes device is.
      calm_roomy s.mail w.entries (happening.downs device w.entries) w.ports notes
      (downs_hold IsCalm device (λ k b. refl) w.entries) is;
}
