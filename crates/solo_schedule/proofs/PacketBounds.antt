-- The schedule keeps packets and payloads within bounds.
use Rattle.std.proofs.Common.{◌≤◌, ◌+◌, ℕ, zero, suc, List, [], ◌∷◌, ◌++◌, length, map}
use Rattle.std.proofs.Common.{Option, Some, None, Bool, true, false, cond, arith}
use Rattle.std.specs.Prelude.{slice_get, find, option_map}
use Rattle.std.specs.Option.{option_map_or}
use Rattle.std.specs.Prelude.{All}
use Rattle.std.specs.List.{AllByRecursion}
use Rattle.std.proofs.lemmas.List.{length-drop}
use Rattle.std.proofs.lemmas.List.Elements.{recursion_from_All}
use Rattle.packet_entry.specs.declared.packet.Card.{Card}
use Rattle.packet_entry.specs.declared.letter.Letter.{Letter}
use Rattle.packet_entry.specs.Numbers.{longest_packet}
use Rattle.pcap_io.specs.declared.capture.Capture.{Capture}
use Rattle.pcap_io.specs.declared.capture.Frame.{Frame}
use Rattle.ip_fields.specs.declared.frame.LinkCut.{LinkCut}
use Rattle.ip_fields.specs.Frame.{cut_of}
use Rattle.hook_chain.specs.declared.chain.Decision.{Decision}
use Rattle.hook_chain.specs.declared.chain.Next.{Next}
use Rattle.hook_chain.specs.declared.chain.Next.TheVariants.{Released, To}
use Rattle.hook_chain.specs.Route.{next, onward_of}
use Rattle.netlink_codec.specs.Messages.{NetlinkMessage}
use Rattle.nfqa_msgs.specs.declared.request.Decoded.{Decoded}
use Rattle.nfqa_msgs.specs.declared.request.Decoded.TheVariants.{Nothing, Refused, Asked}
use Rattle.nfqa_msgs.specs.declared.notice.Notice.{Notice}
use Rattle.nfqa_msgs.specs.NoticeWriting.{Told}
use Rattle.nfqa_msgs.specs.NoticeMeaning.{notice_of}
use Rattle.nfqa_msgs.specs.RequestReading.{AskedFits, decoded}
use Rattle.queue_core.specs.Step.{Way, Gone, Open, Decided}
use Rattle.queue_core.specs.declared.event.Event.TheVariants.{Ask}
use Rattle.histories.specs.declared.log.AskWords.{AskWords}
use Rattle.histories.specs.Journeys.{Arrival}
use Rattle.histories.specs.Happenings.{all_handed, arrive, closings, downs, queue_of}
use Rattle.script_lines.specs.declared.ask.Ask as lines
use Rattle.script_lines.specs.declared.ask.Ask.TheVariants.{Words, Close}
use Rattle.script_lines.specs.declared.line.Down.{Down}
use Rattle.script_lines.specs.declared.answering.OnLine.{OnLine}
use Rattle.script_lines.specs.declared.template.Template.{Template}
use Rattle.script_lines.specs.declared.template.Template.TheVariants as template
use Rattle.script_lines.specs.Answering.{asks_of, holds_all}
use Rattle.script_lines.specs.Asking.{asked}
use Rattle.script_lines.specs.Limits.{IsAsk, IsWords, IsTemplate, IsOnLine}
use Rattle.inspector_script.specs.declared.block.Block.{Block}
use Rattle.inspector_script.specs.Blocks as block
use Rattle.inspector_script.specs.Scripts.{ScriptValue, IsBlock, opening, closing}
use Rattle.packet_moves.specs.declared.setting.Setting.{Setting}
use Rattle.packet_moves.specs.World.{World, at_port, received}
use Rattle.packet_moves.specs.Moving.{Carried, arrival_to, arrived, turned_away, settled, carry}
use Rattle.packet_moves.specs.Moving.{carry_on, goes_on, route_after, room_for}
use Rattle.packet_moves.specs.Messages.{asking, with_ask, call_at}
use Rattle.packet_moves.specs.Planes.{entered, with_closed, without_device, beginning}
use Rattle.run_parts.specs.Datagrams.{AsksWell}
use Rattle.solo_schedule.specs.Numbers.{enough_arrivals}
use Rattle.run_parts.specs.Entering.{card_of, card_at}
use Rattle.run_parts.specs.Log.{asks_for}
use Rattle.nfqa_msgs.specs.NoticeTexts.{told_exactly}
use Rattle.solo_schedule.specs.Sending.{all_moved, carried_out, sent, all_sent}
use Rattle.run_parts.specs.Datagrams.{messages_in, bytes_of}
use Rattle.solo_schedule.specs.Sending.{done, all_done}
use Rattle.solo_schedule.specs.Schedule.{Looked, letters_at, is_open_port, looked_at}
use Rattle.solo_schedule.specs.Schedule.{looked, round, emptied_in, received_in}
use Rattle.solo_schedule.specs.Schedule.{opened_all, all_down, fed, frame_passed, frames_passed}
use Rattle.run_parts.specs.Feeder.{downs_after}
use Rattle.solo_schedule.specs.Schedule.{is_pause, ended_all, rounds_for}
use Rattle.histories.specs.Holding.{appended}
use Rattle.queue_core.specs.Holding.{AllLeave}
use Rattle.solo_schedule.proofs.PacketProperties.{IsSmall, Fitting, AllFit, leaving_small}
use Rattle.solo_schedule.proofs.EachEntry.{closings_hold, downs_hold}

abbrev pub Bounded : World → Type 0
Bounded w = AllFit w.entries

-- what happens keeps it
abbrev Stays : (World → World) → Type 0
Stays then = (w : World) → Bounded w → Bounded (then w)

abbrev AllHanded : List (Card × Decision) → Type 0
AllHanded hs = AllByRecursion (λ (h : Card × Decision). IsSmall h.0) hs

handed_small : (ls : List (Card × Way)) → AllLeave IsSmall ls → AllHanded (all_handed ls)
handed_small [] all = tt
handed_small (l ∷ ls) all = by l.0 l.1 all.0 (handed_small ls all.1)
  where
    by : (card : Card) (way : Way) → IsSmall card → AllHanded (all_handed ls) →
        AllHanded (all_handed ((card, way) ∷ ls))
    by card Gone small others = others
    by card Open small others = others
    by card (Decided d) small others = (small, others)

-- messages whose payload fits
abbrev pub AllAskWell : List NetlinkMessage → Type 0
AllAskWell ms = AllByRecursion AsksWell ms

-- the messages of each ask of a script are so
abbrev pub WordsFit : Type 0
WordsFit = (port call : ℕ) (words : AskWords) → IsWords words →
    All AsksWell (messages_in (bytes_of port call words))

abbrev AllAsks : List lines.Ask → Type 0
AllAsks asks = AllByRecursion IsAsk asks

module _ (s : Setting) where
  arrived_fits : (w : World) (a : Arrival) → Bounded w → IsSmall a.card → Bounded (arrived s w a)
  arrived_fits w a fit small = appended Fitting w.entries _ fit (small, tt)

  turned_small : (w : World) (a : Arrival) → Bounded w → IsSmall a.card →
      AllLeave IsSmall (turned_away s w a)
  turned_small w a fit small =
      leaving_small w.entries a.queue (arrive a (room_for s w a)) fit small

  goes_fits : (on : Next → Carried) → ((route : Next) → Bounded (on route).world) → (w : World)
      (route : Option Next) → Bounded w → Bounded (goes_on on w route).world
  goes_fits on keeps w None fit = fit
  goes_fits on keeps w (Some route) fit = keeps route

  settled_fits : (on : World → Card → Next → Carried) →
      ((w : World) (card : Card) (route : Next) → Bounded w → IsSmall card →
      Bounded (on w card route).world) → (w : World) (left : List (Card × Way)) → Bounded w →
      AllLeave IsSmall left → Bounded (settled on s w left).world
  settled_fits on keeps w [] fit small = fit
  settled_fits on keeps w (l ∷ ls) fit small =
      goes_fits (on w l.0) (λ route. keeps w l.0 route fit small.0) w (route_after s l) fit

  carry_fits : (memory : ℕ) (w : World) (card : Card) (route : Next) → Bounded w → IsSmall card →
      Bounded (carry memory s w card route).world
  carry_fits zero w card Released fit small = fit
  carry_fits zero w card (To queue bypass table) fit small = fit
  carry_fits (suc memory) w card Released fit small = fit
  carry_fits (suc memory) w card (To queue bypass table) fit small =
      let a = arrival_to queue bypass table card in
      settled_fits (carry memory s) (carry_fits memory) (arrived s w a) (turned_away s w a)
      (arrived_fits w a fit small) (turned_small w a fit small)

  moved_fits : (hs : List (Card × Decision)) (w : World) → Bounded w → AllHanded hs →
      Bounded (all_moved s hs w)
  moved_fits [] w fit small = fit
  moved_fits (h ∷ hs) w fit small =
      let on = onward_of s.tables s.key h.0 h.1 in
      moved_fits hs (carry_on enough_arrivals s w h.0 on).world
      (goes_fits (carry enough_arrivals s w h.0)
      (λ route. carry_fits enough_arrivals w h.0 route fit small.0) w on fit) small.1

  out_fits : (port call : ℕ) (d : Decoded) (w : World) → AskedFits d → Bounded w →
      Bounded (carried_out s port call d w)
  out_fits port call Nothing w asks fit = fit
  out_fits port call (Refused errno) w asks fit = fit
  out_fits port call (Asked request) w asks fit =
      moved_fits (all_handed (asking w port call request).left) (with_ask w port call request)
      (appended Fitting w.entries _ fit (asks, tt))
      (handed_small (asking w port call request).left
      (leaving_small w.entries (queue_of request) (Ask port call request) fit asks))

  sends_fit : (then : World → World) → Stays then → (port : ℕ) (ms : List NetlinkMessage)
      (w : World) → AllAskWell ms → Bounded w → Bounded (all_sent then s port ms w)
  sends_fit then stays port [] w asks fit = fit
  sends_fit then stays port (m ∷ ms) w asks fit =
      sends_fit then stays port ms (then (sent s port m w)) asks.1
      (stays (sent s port m w) (out_fits port (call_at (w.ports port)) (decoded m) w asks.0 fit))

-- ---- closings and devices

either : {X : Type 0} (P : X → Type 0) (b : Bool) (s t : X) → P s → P t → P (cond b s t)
either P true s t h k = h
either P false s t h k = k

shuts_fit : (port : ℕ) → Stays (λ w. with_closed w port)
shuts_fit port w fit =
    appended Fitting w.entries (closings port w.entries) fit
    (closings_hold Fitting port (λ k b. tt) w.entries)

falls_fit : (ds : List Down) → Stays (all_down ds)
falls_fit [] w fit = fit
falls_fit (d ∷ ds) w fit =
    falls_fit ds (without_device w d.device)
    (appended Fitting w.entries (downs d.device w.entries) fit
    (downs_hold Fitting d.device (λ k b. tt) w.entries))

-- ---- what a script asks for

answer_asks : (n : Notice) (ts : List Template) → AllByRecursion IsTemplate ts →
    AllAsks (map (asked n) ts)
answer_asks n [] each = tt
answer_asks n (t ∷ ts) each = (by t each.0, answer_asks n ts each.1)
  where
    by : (t : Template) → IsTemplate t → IsAsk (asked n t)
    by (template.Config queue settings) is = tt
    by (template.Verdict j payload) is = is
    by (template.Batch j) is = tt
    by (template.Raw bytes) is = is

line_asks : (received : ℕ) (n : Notice) (ls : List OnLine) → AllByRecursion IsOnLine ls →
    AllAsks (block.answer_by received n ls)
line_asks received n [] each = tt
line_asks received n (l ∷ ls) each =
    either (λ (o : Option OnLine). AllAsks (option_map_or (asks_of n) o []))
    (holds_all received n l) (Some l) (find (holds_all received n) ls)
    (answer_asks n l.asks (recursion_from_All IsTemplate l.asks each.0.each))
    (line_asks received n ls each.1)

words_asks : (all : List AskWords) → AllByRecursion IsWords all → AllAsks (map Words all)
words_asks [] each = tt
words_asks (w ∷ ws) each = (each.0, words_asks ws each.1)

and_asks : (one two : List lines.Ask) → AllAsks one → AllAsks two → AllAsks (one ++ two)
and_asks [] two for_one for_two = for_two
and_asks (a ∷ more) two for_one for_two = (for_one.0, and_asks more two for_one.1 for_two)

at_block : (bs : List Block) (place : ℕ) (asks : Block → List lines.Ask) →
    AllByRecursion IsBlock bs → ((b : Block) → IsBlock b → AllAsks (asks b)) →
    AllAsks (option_map_or asks (slice_get bs place) [])
at_block [] place asks all each = tt
at_block (b ∷ bs) zero asks all each = each b all.0
at_block (b ∷ bs) (suc place) asks all each = at_block bs place asks all.1 each

-- ---- the schedule

module _ (fits : WordsFit) (s : Setting) where
  done_fits : (then : World → World) → Stays then → (port : ℕ) (a : lines.Ask) (w : World) →
      IsAsk a → Bounded w → Bounded (done then s port a w)
  done_fits then stays port (Words words) w is fit =
      sends_fit s then stays port (messages_in (bytes_of port (call_at (w.ports port)) words)) w
      (recursion_from_All AsksWell (messages_in (bytes_of port (call_at (w.ports port)) words))
      (fits port (call_at (w.ports port)) words is)) fit
  done_fits then stays port Close w is fit = shuts_fit port w fit

  dones_fit : (then : World → World) → Stays then → (port : ℕ) (asks : List lines.Ask)
      (w : World) → AllAsks asks → Bounded w → Bounded (all_done then s port asks w)
  dones_fit then stays port [] w are fit = fit
  dones_fit then stays port (a ∷ more) w are fit =
      dones_fit then stays port more (done then s port a w) are.1
      (done_fits then stays port a w are.0 fit)

  module _ (script : ScriptValue) (all : AllByRecursion IsBlock script.blocks) where
    opening_asks : (place : ℕ) → AllAsks (opening script place)
    opening_asks place = at_block script.blocks place block.opening all
        (λ b is. words_asks b.opening (recursion_from_All IsWords b.opening is.opening_asks))

    closing_asks : (place : ℕ) → AllAsks (closing script place)
    closing_asks place = at_block script.blocks place block.closing all
        (λ b is. and_asks (map Words b.closing) _
        (words_asks b.closing (recursion_from_All IsWords b.closing is.closing_asks)) (by b.closes))
      where
        by : (c : Bool) → AllAsks (cond c (Close ∷ []) [])
        by true = (tt, tt)
        by false = tt

    answer_good : (place received : ℕ) (told : Option Told) →
        AllAsks (asks_for script place received told)
    answer_good place received None = tt
    answer_good place received (Some told) =
        at_block script.blocks place (block.answer received (notice_of told)) all
        (λ b is. line_asks received (notice_of told) b.lines
        (recursion_from_All IsOnLine b.lines is.on_lines))

    look_fits : (place port : ℕ) (letters : List Letter) (l : Looked) → Bounded l.world →
        Bounded (looked_at s script place port letters l).world
    look_fits place port [] l fit = fit
    look_fits place port (letter ∷ letters) l fit =
        let w = at_port port received l.world in
        dones_fit (λ v. v) (λ v is. is) port
        (asks_for script place (received_in (w.ports port)) (told_exactly letter.bytes)) w
        (answer_good place (received_in (w.ports port)) (told_exactly letter.bytes)) fit

    looked_fits : (place port : ℕ) (l : Looked) → Bounded l.world →
        Bounded (looked s script place port l).world
    looked_fits place port l fit = by (is_open_port (l.world.ports port))
      where
        by : (c : Bool) → Bounded
            (cond c (looked_at s script place port (letters_at (l.world.ports port)) l) l).world
        by true = look_fits place port (letters_at (l.world.ports port)) l fit
        by false = fit

    round_fits : (place : ℕ) (ps : List ℕ) (l : Looked) → Bounded l.world →
        Bounded (round s script place ps l).world
    round_fits place [] l fit = fit
    round_fits place (p ∷ ps) l fit =
        round_fits (place + 1) ps (looked s script place p l) (looked_fits place p l fit)

    emptied_fits : (rounds : ℕ) → Stays (emptied_in rounds s script)
    emptied_fits zero w fit = fit
    emptied_fits (suc rounds) w fit =
        let l = round s script 0 script.ports (record { world = w; found = false }) in
        let so = round_fits 0 script.ports (record { world = w; found = false }) fit in
        either Bounded l.found (emptied_in rounds s script l.world) l.world
        (emptied_fits rounds l.world so) so

    opens_fit : (place : ℕ) (ps : List ℕ) → Stays (opened_all s script place ps)
    opens_fit place [] w fit = fit
    opens_fit place (p ∷ ps) w fit =
        opens_fit (place + 1) ps (all_done (λ v. v) s p (opening script place) w)
        (dones_fit (λ v. v) (λ v is. is) p (opening script place) w (opening_asks place) fit)

    ends_fit : (rounds place : ℕ) (ps : List ℕ) → Stays (ended_all rounds s script place ps)
    ends_fit rounds place [] w fit = fit
    ends_fit rounds place (p ∷ ps) w fit =
        ends_fit rounds (place + 1) ps
        (all_done (emptied_in rounds s script) s p (closing script place) w)
        (dones_fit (emptied_in rounds s script) (emptied_fits rounds) p (closing script place) w
        (closing_asks place) fit)

    card_small : (c : Capture) (number : ℕ) (f : Frame) (o : Option LinkCut) →
        length f.bytes ≤ longest_packet → (w : World) → Bounded w →
        Bounded (fed s (option_map (card_at c number f) o) w)
    card_small c number f None small w fit = fit
    card_small c number f (Some cut) small w fit =
        let card = card_at c number f cut in
        carry_fits s enough_arrivals (entered w card) card (next s.tables s.key card 1) fit
        (omega (arith, small, length-drop cut.length f.bytes))

    frames_fit : (rounds : ℕ) (c : Capture) (number : ℕ) (fs : List Frame) →
        AllByRecursion (λ (f : Frame). length f.bytes ≤ longest_packet) fs →
        Stays (frames_passed rounds s script c number fs)
    frames_fit rounds c number [] small w fit = fit
    frames_fit rounds c number (f ∷ fs) small w fit =
        frames_fit rounds c (number + 1) fs small.1 (frame_passed rounds s script c number f w)
        (by (is_pause script.pace number) (all_down (downs_after script number)
        (fed s (card_of c number f) w))
        (falls_fit (downs_after script number) (fed s (card_of c number f) w)
        (card_small c number f (cut_of c.link f.bytes) small.0 w fit)))
      where
        by : (b : Bool) (v : World) → Bounded v → Bounded (cond b (emptied_in rounds s script v) v)
        by true v fit = emptied_fits rounds v fit
        by false v fit = fit

    pub run_fits : (c : Capture) →
        AllByRecursion (λ (f : Frame). length f.bytes ≤ longest_packet) c.frames →
        Bounded (ended_all (rounds_for c) s script 0 script.ports
        (emptied_in (rounds_for c) s script (frames_passed (rounds_for c) s script c 1 c.frames
        (all_down (downs_after script 0)
        (opened_all s script 0 script.ports (beginning script.ports))))))
    run_fits c small =
        let rounds = rounds_for c in
        let one = opened_all s script 0 script.ports (beginning script.ports) in
        let two = all_down (downs_after script 0) one in
        let three = frames_passed rounds s script c 1 c.frames two in
        ends_fit rounds 0 script.ports (emptied_in rounds s script three)
        (emptied_fits rounds three
        (frames_fit rounds c 1 c.frames small two
        (falls_fit (downs_after script 0) one
        (opens_fit 0 script.ports (beginning script.ports) tt))))
