-- Notices: each move keeps what ports received and what waits in their mailboxes the notices of the
-- arrivals that their queues took.
use Rattle.std.proofs.Common.{◌≡◌, ◌⊎◌, ◌∙◌, ℕ, List, [], ◌∷◌, ◌++◌, Option, Some, None, Bool}
use Rattle.std.proofs.Common.{true, false, refl, sym, ap, subst, inl, inr, append-nil, append_assoc}
use Rattle.std.specs.Prelude.{filter, ◌==◌, not, ◌&&◌, if◌then◌else◌, option_map}
use Rattle.std.specs.List.{AllByRecursion}
use Rattle.std.proofs.lemmas.Bool.{cases_Bool, eqb-true}
use Rattle.std.proofs.lemmas.List.Elements.{filter-append}
use Rattle.std.proofs.lemmas.List.Concat.{flat_map-append}
use Rattle.packet_entry.specs.Numbers.{last_visit}
use Rattle.packet_entry.specs.declared.packet.Card.{Card}
use Rattle.packet_entry.specs.declared.letter.Letter.{Letter}
use Rattle.nfqa_msgs.specs.Numbers.{copy_none}
use Rattle.nfqa_msgs.specs.declared.request.Decoded.{Decoded}
use Rattle.nfqa_msgs.specs.declared.request.Decoded.TheVariants.{Nothing, Refused, Asked}
use Rattle.nfqa_msgs.specs.RequestReading.{decoded}
use Rattle.queue_core.specs.State.{Bound, fails_open}
use Rattle.queue_core.specs.Step.{Stepped, Way, step, arrive, is_full, next_id}
use Rattle.queue_core.specs.WithOffer.{letter_of}
use Rattle.queue_core.specs.declared.event.Event.TheVariants.{Ask}
use Rattle.histories.specs.declared.entry.Entry.{Entry}
use Rattle.histories.specs.declared.log.Did.TheVariants.{Sent}
use Rattle.histories.specs.History.{history, is_of, replay_from}
use Rattle.histories.specs.Journeys.{Arrival}
use Rattle.histories.specs.States.{entry_of, entry_in, state_of}
use Rattle.histories.specs.Happenings as happening
use Rattle.histories.specs.Holding.{in_history}
use Rattle.packet_moves.specs.declared.setting.Setting.{Setting}
use Rattle.packet_moves.specs.World.{World, Port, delivered, received}
use Rattle.packet_moves.specs.World.{received_from, having_done, closed}
use Rattle.packet_moves.specs.World.{changed_at}
use Rattle.packet_moves.specs.Moving.{arrived, room_for, with_notice}
use Rattle.packet_moves.specs.Messages.{asking, with_ask, words_of, answered}
use Rattle.solo_schedule.specs.Sending.{carried_out, errno_of}
use Rattle.run_parts.specs.Log.{Note, Got, Begun, Spoke, Shut}
use Rattle.histories.specs.Letters.{letters_of_reply, letters_of_event, letters_under, is_from}
use Rattle.run_parts.specs.Notices.{heard, heard_by, letters_from}
use Rattle.solo_schedule.proofs.OnwardPackets.{all_moved_keeps}
use Rattle.solo_schedule.proofs.RunSteps.{noted}
use Rattle.solo_schedule.proofs.DueMessages.{Keeps}
use Rattle.solo_schedule.proofs.EachEntry.{closings_hold, downs_hold}

-- the notices of a queue for a port
abbrev pub letters : ℕ → ℕ → List Entry → List Letter
letters p queue es = letters_from p None (history queue es)

letters_append : (p : ℕ) (q : Option Bound) (es fs : List Entry) →
    letters_from p q (es ++ fs) ≡ letters_from p q es ++ letters_from p (replay_from q es) fs
letters_append p q [] fs = refl
letters_append p q (e ∷ es) fs =
    ap (λ ls. letters_under p q e ++ ls) (letters_append p (step q e.event).state es fs)
    ∙ sym (append_assoc (letters_under p q e) (letters_from p (step q e.event).state es)
    (letters_from p (replay_from (step q e.event).state es) fs))

-- one entry more
letters_push : (p queue : ℕ) (es : List Entry) (e : Entry) →
    letters p queue (es ++ e ∷ [])
    ≡ letters p queue es
    ++ (if e.queue == queue then letters_under p (state_of es e.queue) e else [])
letters_push p queue es e =
    ap (letters_from p None) (filter-append (is_of queue) es (e ∷ []))
    ∙ letters_append p None (history queue es) (history queue (e ∷ []))
    ∙ ap (λ ls. letters p queue es ++ ls) (by (cases_Bool (is_of queue e)))
  where
    by : (is_of queue e ≡ true) ⊎ (is_of queue e ≡ false) →
        letters_from p (state_of es queue) (history queue (e ∷ []))
        ≡ (if e.queue == queue then letters_under p (state_of es e.queue) e else [])
    by (inl h) =
        rw h (append-nil (letters_under p (state_of es queue) e)
        ∙ ap (λ k. letters_under p (state_of es k) e) (sym (eqb-true e.queue queue h)))
    by (inr h) = rw h refl

-- ---- entries that are no arrivals

abbrev IsQuiet : Entry → Type 0
IsQuiet e = (queue : ℕ) (q : Bound) → letters_of_event queue q e.event e.reply ≡ []

abbrev pub AreQuiet : List Entry → Type 0
AreQuiet es = AllByRecursion IsQuiet es

quiet_none : (p : ℕ) (q : Option Bound) (es : List Entry) → AreQuiet es → letters_from p q es ≡ []
quiet_none p q [] quiet = refl
quiet_none p None (e ∷ es) quiet = quiet_none p (step None e.event).state es quiet.1
quiet_none p (Some q) (e ∷ es) quiet =
    by (p == q.port) (quiet_none p (step (Some q) e.event).state es quiet.1)
  where
    by : (c : Bool) → letters_from p (step (Some q) e.event).state es ≡ [] →
        (if c then letters_of_event e.queue q e.event e.reply else [])
        ++ letters_from p (step (Some q) e.event).state es ≡ []
    by true more = ap (λ ls. ls ++ letters_from p (step (Some q) e.event).state es)
        (quiet.0 e.queue q) ∙ more
    by false more = more

letters_stay : (p queue : ℕ) (es fs : List Entry) → AreQuiet fs →
    letters p queue (es ++ fs) ≡ letters p queue es
letters_stay p queue es fs quiet =
    ap (letters_from p None) (filter-append (is_of queue) es fs)
    ∙ letters_append p None (history queue es) (history queue fs)
    ∙ ap (λ ls. letters p queue es ++ ls)
    (quiet_none p (state_of es queue) (history queue fs) (in_history IsQuiet queue fs quiet))
    ∙ append-nil (letters p queue es)

-- ---- an arrival

either : (P : Stepped → Type 0) (c : Bool) (x y : Stepped) → P x → P y → P (if c then x else y)
either P true x y one two = one
either P false x y one two = two

-- what an arrival offers at a bound queue, by what leaves at once
abbrev pub offered : ℕ → Bound → Card → List (Card × Way) → List Letter
offered queue b card [] = letter_of queue b (next_id b) card ∷ []
offered queue b card (l ∷ ls) = []

pub arrival_offers : (queue : ℕ) (b : Bound) (card : Card) (bypass room : Bool) →
    letters_of_reply queue b card (arrive (Some b) card bypass room).reply
    ≡ offered queue b card (arrive (Some b) card bypass room).left
arrival_offers queue b card bypass room =
    let P = λ (s : Stepped). letters_of_reply queue b card s.reply ≡ offered queue b card s.left in
    either P (card.visit == last_visit) _ _ refl
    (either P (b.mode == copy_none) _ _ refl
    (either P (is_full b && fails_open b) _ _ refl
    (either P (is_full b) _ _ refl
    (either P (not room && fails_open b) _ _ refl
    (either P (not room) _ _ refl refl)))))

-- ---- what is kept

-- of a port that is there
abbrev pub Noticed : ℕ → ℕ → List Entry → Option Port → List Note → Type 0
Noticed p queue es None notes = Unit {0}
Noticed p queue es (Some held) notes =
    filter (is_from queue) (heard notes ++ held.letters) ≡ letters p queue es

pub record AreNoticed (es : List Entry) (ports : ℕ → Option Port) (notes : ℕ → List Note)
    : Type 0 where
  pub each : (p queue : ℕ) → Noticed p queue es (ports p) (notes p)

-- other entries
noticed_as : (p queue : ℕ) (es fs : List Entry) (o : Option Port) (notes : List Note) →
    letters p queue fs ≡ letters p queue es → Noticed p queue es o notes →
    Noticed p queue fs o notes
noticed_as p queue es fs None notes same is = tt
noticed_as p queue es fs (Some held) notes same is = is ∙ sym same

-- a note that is no notice
quiet_note : (p queue : ℕ) (es : List Entry) (o : Option Port) (notes : List Note) (n : Note) →
    heard_by n ≡ [] → Noticed p queue es o notes → Noticed p queue es o (notes ++ n ∷ [])
quiet_note p queue es None notes n none is = tt
quiet_note p queue es (Some held) notes n none is =
    ap (λ ls. filter (is_from queue) (ls ++ held.letters))
    (flat_map-append heard_by notes (n ∷ [])
    ∙ ap (λ ls. heard notes ++ (ls ++ [])) none ∙ append-nil (heard notes))
    ∙ is

-- what a port does that leaves its mailbox
mail_stays : (p queue : ℕ) (es : List Entry) (o : Option Port) (notes : List Note)
    (g : Port → Port) → ((held : Port) → (g held).letters ≡ held.letters) →
    Noticed p queue es o notes → Noticed p queue es (option_map g o) notes
mail_stays p queue es None notes g same is = tt
mail_stays p queue es (Some held) notes g same is =
    ap (λ ls. filter (is_from queue) (heard notes ++ ls)) (same held) ∙ is

-- a notice comes
comes : (p queue : ℕ) (es fs : List Entry) (o : Option Port) (notes : List Note) (l : Letter) →
    letters p queue fs ≡ letters p queue es ++ (if l.queue == queue then l ∷ [] else []) →
    Noticed p queue es o notes → Noticed p queue fs (option_map (delivered l) o) notes
comes p queue es fs None notes l more is = tt
comes p queue es fs (Some held) notes l more is =
    ap (filter (is_from queue)) (sym (append_assoc (heard notes) held.letters (l ∷ [])))
    ∙ filter-append (is_from queue) (heard notes ++ held.letters) (l ∷ [])
    ∙ ap (λ ls. ls ++ filter (is_from queue) (l ∷ [])) is ∙ sym more

none_more : (c d : Bool) (ls : List Letter) → ls ++ (if c then (if d then [] else []) else []) ≡ ls
none_more true true ls = append-nil ls
none_more true false ls = append-nil ls
none_more false d ls = append-nil ls

module _ (a : Arrival) (room : Bool) (p queue : ℕ) (es fs : List Entry) (ports : ℕ → Option Port)
    (notes : List Note) where
  offered_so : (b : Bound) (left : List (Card × Way)) (c : Bool) →
      letters p queue fs ≡ letters p queue es
      ++ (if a.queue == queue then (if c then offered a.queue b a.card left else []) else []) →
      Noticed p queue es (ports p) notes →
      (p == b.port) ≡ c → Noticed p queue fs (with_notice (Some b) a left ports p) notes
  offered_so b (l ∷ ls) c more is own =
      noticed_as p queue es fs (ports p) notes
      (more ∙ none_more (a.queue == queue) c (letters p queue es)) is
  offered_so b [] true more is own =
      rw own (comes p queue es fs (ports p) notes (letter_of a.queue b (next_id b) a.card) more is)
  offered_so b [] false more is own =
      rw own (noticed_as p queue es fs (ports p) notes
      (more ∙ none_more (a.queue == queue) false (letters p queue es)) is)

  arrival_so : (st : Option Bound) →
      letters p queue fs ≡ letters p queue es
      ++ (if a.queue == queue
      then letters_under p st (entry_in a.queue st (happening.arrive a room)) else []) →
      Noticed p queue es (ports p) notes →
      Noticed p queue fs (with_notice st a (step st (happening.arrive a room)).left ports p) notes
  arrival_so None more is =
      noticed_as p queue es fs (ports p) notes
      (more ∙ none_more (a.queue == queue) true (letters p queue es)) is
  arrival_so (Some b) more is =
      offered_so b (step (Some b) (happening.arrive a room)).left (p == b.port)
      (more ∙ ap (λ ls. letters p queue es
      ++ (if a.queue == queue then (if p == b.port then ls else []) else []))
      (arrival_offers a.queue b a.card a.bypass room)) is refl

arrival_noticed : (s : Setting) (w : World) (a : Arrival) (notes : ℕ → List Note) →
    AreNoticed w.entries w.ports notes →
    AreNoticed (arrived s w a).entries (arrived s w a).ports notes
arrival_noticed s w a notes is =
    let room = room_for s w a in
    let e = entry_of w.entries a.queue (happening.arrive a room) in
    record {
      each = λ p queue. arrival_so a room p queue w.entries (w.entries ++ e ∷ []) w.ports (notes p)
          (state_of w.entries a.queue) (letters_push p queue w.entries e) (is.each p queue);
    }

-- entries that are no arrivals
quiet_noticed : (es fs : List Entry) (ports : ℕ → Option Port) (notes : ℕ → List Note) →
    AreQuiet fs → AreNoticed es ports notes → AreNoticed (es ++ fs) ports notes
quiet_noticed es fs ports notes quiet is = record {
  each = λ p queue. noticed_as p queue es (es ++ fs) (ports p) (notes p)
      (letters_stay p queue es fs quiet) (is.each p queue);
}

carried_noticed : (s : Setting) (w : World) (notes : ℕ → List Note) (port call : ℕ) (d : Decoded) →
    AreNoticed w.entries w.ports notes →
    AreNoticed (carried_out s port call d w).entries (carried_out s port call d w).ports notes
carried_noticed s w notes port call Nothing is = is
carried_noticed s w notes port call (Refused errno) is = is
carried_noticed s w notes port call (Asked r) is =
    all_moved_keeps s (λ es ports. AreNoticed es ports notes)
    (λ v a is. arrival_noticed s v a notes is)
    (happening.all_handed (asking w port call r).left) (with_ask w port call r)
    (quiet_noticed w.entries (entry_of w.entries (happening.queue_of r) (Ask port call r) ∷ [])
    w.ports
    notes (λ queue q. refl, tt) is)

-- a port does something that leaves all mailboxes
quiet_then : (es : List Entry) (ports : ℕ → Option Port) (notes : ℕ → List Note) (port : ℕ)
    (n : Note) (g : Port → Port) → heard_by n ≡ [] →
    ((held : Port) → (g held).letters ≡ held.letters) → AreNoticed es ports notes →
    AreNoticed es (changed_at port g ports) (noted port n notes)
quiet_then es ports notes port n g none same is = record {
  each = λ p queue. by p queue (p == port) (is.each p queue);
}
  where
    by : (p queue : ℕ) (c : Bool) → Noticed p queue es (ports p) (notes p) →
        Noticed p queue es (if c then option_map g (ports p) else ports p)
        (if c then notes p ++ n ∷ [] else notes p)
    by p queue true so =
        quiet_note p queue es (option_map g (ports p)) (notes p) n none
        (mail_stays p queue es (ports p) (notes p) g same so)
    by p queue false so = so

-- a port takes up an ask
begun_noticed : (es : List Entry) (ports : ℕ → Option Port) (notes : ℕ → List Note) (port : ℕ) →
    AreNoticed es ports notes → AreNoticed es ports (noted port Begun notes)
begun_noticed es ports notes port is = record {
  each = λ p queue. by p queue (p == port) (is.each p queue);
}
  where
    by : (p queue : ℕ) (c : Bool) → Noticed p queue es (ports p) (notes p) →
        Noticed p queue es (ports p) (if c then notes p ++ Begun ∷ [] else notes p)
    by p queue true so = quiet_note p queue es (ports p) (notes p) Begun refl so
    by p queue false so = so

-- a notice is received
got_one : (p queue : ℕ) (es : List Entry) (held : Port) (l : Letter) (ls mail : List Letter)
    (notes : List Note) → mail ≡ l ∷ ls →
    filter (is_from queue) (heard notes ++ mail) ≡ letters p queue es →
    filter (is_from queue) (heard (notes ++ Got l ∷ []) ++ (received_from mail held).letters)
    ≡ letters p queue es
got_one p queue es held l ls mail notes is so =
    subst (λ m. filter (is_from queue) (heard (notes ++ Got l ∷ [])
    ++ (received_from m held).letters)
    ≡ letters p queue es) (sym is)
    (ap (λ hs. filter (is_from queue) (hs ++ ls)) (flat_map-append heard_by notes (Got l ∷ []))
    ∙ ap (filter (is_from queue)) (append_assoc (heard notes) (l ∷ []) ls)
    ∙ ap (λ m. filter (is_from queue) (heard notes ++ m)) (sym is) ∙ so)

got_noticed : (w : World) (notes : ℕ → List Note) (port : ℕ) (held : Port) (l : Letter)
    (ls : List Letter) → w.ports port ≡ Some held → held.letters ≡ l ∷ ls →
    AreNoticed w.entries w.ports notes →
    AreNoticed w.entries (changed_at port received w.ports) (noted port (Got l) notes)
got_noticed w notes port held l ls there mail is = record {
  each = λ p queue. by p queue (cases_Bool (p == port));
}
  where
    own : (p queue : ℕ) → w.ports p ≡ Some held → Noticed p queue w.entries (w.ports p) (notes p) →
        Noticed p queue w.entries (option_map received (w.ports p)) (notes p ++ Got l ∷ [])
    own p queue at so =
        subst (λ o. Noticed p queue w.entries (option_map received o) (notes p ++ Got l ∷ []))
        (sym at)
        (got_one p queue w.entries held l ls held.letters (notes p) mail
        (subst (λ o. Noticed p queue w.entries o (notes p)) at so))

    by : (p queue : ℕ) → ((p == port) ≡ true) ⊎ ((p == port) ≡ false) →
        Noticed p queue w.entries (changed_at port received w.ports p) (noted port (Got l) notes p)
    by p queue (inl h) =
        let at : w.ports p ≡ Some held = ap w.ports (eqb-true p port h) ∙ there in
        rw h (own p queue at (is.each p queue))
    by p queue (inr h) = rw h (is.each p queue)

pub noticed_kept : (s : Setting) → Keeps s (λ es ports notes. AreNoticed es ports notes)
noticed_kept s = record {
  arrives = λ w notes a is. arrival_noticed s w a notes is;
  begins = λ es ports notes port is. begun_noticed es ports notes port is;
  speaks = λ w notes port call m op is.
      let errno = errno_of port call (decoded m) w in
      let between = carried_out s port call (decoded m) w in
      quiet_then between.entries between.ports notes port (Spoke call m errno)
      (having_done (Sent call (words_of port call m.whole (decoded m)) (answered m errno))) refl
      (λ held. refl) (carried_noticed s w notes port call (decoded m) is);
  gets = λ w notes port held l ls op there mail is. got_noticed w notes port held l ls there mail is;
  closes = λ w notes port op is.
      quiet_then (w.entries ++ happening.closings port w.entries)
      w.ports notes port Shut closed refl
      (λ held. refl)
      (quiet_noticed w.entries (happening.closings port w.entries) w.ports notes
      (closings_hold IsQuiet port (λ k b queue q. refl) w.entries) is);
  falls = λ w notes device is.
      quiet_noticed w.entries (happening.downs device w.entries) w.ports notes
      (downs_hold IsQuiet device (λ k b queue q. refl) w.entries) is;
}
