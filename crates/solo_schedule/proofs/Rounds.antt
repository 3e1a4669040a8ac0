-- Each emptying of the mailboxes ends by a round that finds nothing.
use Rattle.std.proofs.Common.{◌≡◌, ◌<◌, ◌⊎◌, ◌+◌, ◌*◌, ℕ, zero, suc, List, [], ◌∷◌, ◌++◌}
use Rattle.std.proofs.Common.{Bool, true, false, sym, ap, subst, inl, inr, arith, length}
use Rattle.std.specs.Prelude.{map, slice_get, All, if◌then◌else◌}
use Rattle.std.specs.List.{AllByRecursion}
use Rattle.std.proofs.lemmas.List.Elements.{All-from_recursion}
use Rattle.netlink_codec.specs.Messages.{NetlinkMessage}
use Rattle.hook_chain.specs.Rules.{RuleTables}
use Rattle.pcap_io.specs.declared.capture.Capture.{Capture}
use Rattle.pcap_io.specs.declared.capture.Frame.{Frame}
use Rattle.histories.specs.declared.log.AskWords.{AskWords}
use Rattle.script_lines.specs.declared.ask.Ask.{Ask}
use Rattle.script_lines.specs.declared.ask.Ask.TheVariants.{Words, Close}
use Rattle.inspector_script.specs.Scripts.{ScriptValue, closing}
use Rattle.packet_moves.specs.declared.setting.Setting.{Setting}
use Rattle.packet_moves.specs.World.{World}
use Rattle.packet_moves.specs.Messages.{call_at}
use Rattle.run_parts.specs.Ports.{AreApart, ArePlaced, HavePlaces}
use Rattle.solo_schedule.specs.Sending.{sent, done, all_done}
use Rattle.run_parts.specs.Datagrams.{messages_in, bytes_of}
use Rattle.solo_schedule.specs.Schedule.{Looked, emptied_in, frame_fed, frame_passed, is_pause}
use Rattle.solo_schedule.specs.Schedule.{rounds_for, setting_of, until_open, until_fed, until_ends}
use Rattle.run_parts.specs.Ports.{place_in}
use Rattle.solo_schedule.specs.Emptyings.{FindsNothing, round_in, at_pauses, behind_messages}
use Rattle.solo_schedule.specs.Emptyings.{behind_asks, at_ends, emptyings}
use Rattle.solo_schedule.proofs.Closings.{Laws}
use Rattle.solo_schedule.proofs.LaterVisits.{LeaveAlone}
use Rattle.solo_schedule.proofs.EmptyStart.{Conserve}
use Rattle.solo_schedule.proofs.RunInvariant.{closing_end, stays_open}
use Rattle.solo_schedule.proofs.LetterBudget.{sent_held}
use Rattle.solo_schedule.proofs.EmptyMailboxes.{Is, Round, Found, Same, round_held, emptied_held}
use Rattle.solo_schedule.proofs.EmptyMailboxes.{frame_held, pause_held, sends_keep, Ended, end_calm}
use Rattle.solo_schedule.proofs.EmptyMailboxes.{at_first, opened_held, before_last, before_end}

join : {X : Type 0} (P : X → Type 0) (xs ys : List X) → AllByRecursion P xs →
    AllByRecursion P ys → AllByRecursion P (xs ++ ys)
join P [] ys all more = more
join P (x ∷ xs) ys all more = (all.0, join P xs ys all.1 more)

module _ (laws : Laws) (conserve : Conserve) (leaves : LeaveAlone) (s : Setting)
    (script : ScriptValue) (apart : AreApart script.ports)
    (placed : ArePlaced script (λ p. place_in p script.ports) 0 script.ports) where
  abbrev Known : (ℕ → Bool) → World → ℕ → Type 0
  Known o w b = Is laws conserve leaves s script apart o w b

  abbrev Ending : ℕ → List World → Type 0
  Ending rounds ws = AllByRecursion (FindsNothing rounds s script) ws

  finds_nothing : (n : ℕ) (o : ℕ → Bool) (w : World) (b : ℕ) → b < n → Known o w b →
      FindsNothing n s script w
  finds_nothing zero o w b less is = absurd (omega (arith, less))
  finds_nothing (suc n) o w b less is =
      by (round_in s script w)
      (round_held laws conserve leaves s script apart o 0 script.ports
      (record { world = w; found = false }) b placed is) (finds_nothing n o)
    where
      by : (r : Looked) →
          Round laws conserve leaves s script apart o (record { world = w; found = false }) r b
          script.ports →
          ((v : World) (c : ℕ) → c < n → Known o v c → FindsNothing n s script v) →
          (r.found ≡ false) ⊎ FindsNothing n s script r.world
      by r (Found holds c fewer held) on = inr (on r.world c (omega (arith, less, fewer)) held)
      by r (Same same quiet) on = inl (ap (λ (k : Looked). k.found) same)

  -- ---- the pauses

  pauses_end : (rounds : ℕ) (o : ℕ → Bool) (c : Capture) (number : ℕ) (fs : List Frame)
      (w : World) (b : ℕ) → b + 32 * length fs < rounds → Known o w b →
      Ending rounds (at_pauses rounds s script c number fs w)
  pauses_end rounds o c number [] w b less is = tt
  pauses_end rounds o c number (f ∷ fs) w b less is =
      let fed = frame_held laws conserve leaves s script apart o c number f w b is in
      join (FindsNothing rounds s script)
      (if is_pause script.pace number then frame_fed s script c number f w ∷ [] else [])
      (at_pauses rounds s script c (number + 1) fs (frame_passed rounds s script c number f w))
      (by (is_pause script.pace number)
      (finds_nothing rounds o (frame_fed s script c number f w) (b + 32) (omega (arith, less)) fed))
      (pauses_end rounds o c (number + 1) fs (frame_passed rounds s script c number f w) (b + 32)
      (omega (arith, less))
      (pause_held laws conserve leaves s script apart placed rounds o number
      (frame_fed s script c number f w) (b + 32) fed))
    where
      by : (p : Bool) → FindsNothing rounds s script (frame_fed s script c number f w) →
          Ending rounds (if p then frame_fed s script c number f w ∷ [] else [])
      by true one = (one, tt)
      by false one = tt

  -- ---- the ends

  messages_end : (rounds : ℕ) (o : ℕ → Bool) (b port : ℕ) → b < rounds → o port ≡ true →
      (ms : List NetlinkMessage) (w : World) → Known o w b →
      Ending rounds (behind_messages (emptied_in rounds s script) s port ms w)
  messages_end rounds o b port less op [] w is = tt
  messages_end rounds o b port less op (m ∷ ms) w is =
      let v = sent s port m w in
      let held = sent_held laws conserve leaves s script.ports apart o w port
      (call_at (w.ports port)) m b op is in (
        finds_nothing rounds o v b less held,
        messages_end rounds o b port less op ms (emptied_in rounds s script v)
            (emptied_held laws conserve leaves s script apart placed rounds o v b held).held,
      )

  asks_end : (rounds : ℕ) (o : ℕ → Bool) (b port : ℕ) → b < rounds → o port ≡ true →
      (stays : Bool) (all : List AskWords) (w : World) → Known o w b →
      Ending rounds
      (behind_asks (emptied_in rounds s script) s port
      (map Words all ++ (if stays then [] else Close ∷ [])) w)
  asks_end rounds o b port less op true [] w is = tt
  asks_end rounds o b port less op false [] w is = tt
  asks_end rounds o b port less op stays (a ∷ more) w is =
      let behind = emptied_in rounds s script in
      let ms = messages_in (bytes_of port (call_at (w.ports port)) a) in
      join (FindsNothing rounds s script)
      (behind_messages behind s port ms w)
      (behind_asks behind s port (map Words more ++ (if stays then [] else Close ∷ []))
      (done behind s port (Words a) w))
      (messages_end rounds o b port less op ms w is)
      (asks_end rounds o b port less op stays more (done behind s port (Words a) w)
      (sends_keep laws conserve leaves s script apart o b behind (λ v. Known o v b) (λ v so. so)
      (λ v so.
      (emptied_held laws conserve leaves s script apart placed rounds o v b so).held) port op ms w
      is))

  ports_end : (rounds b : ℕ) → b < rounds → (place : ℕ) (qs : List ℕ) (w : World) →
      AreApart qs → Ended laws conserve leaves s script apart b qs w →
      Ending rounds (at_ends rounds s script place qs w)
  ports_end rounds b less place [] w apart_qs is = tt
  ports_end rounds b less place (q ∷ qs) w apart_qs is =
      let behind = emptied_in rounds s script in
      let e = closing_end (slice_get script.blocks place) in
      let stays = stays_open (slice_get script.blocks place) in
      join (FindsNothing rounds s script)
      (behind_asks behind s q (closing script place) w)
      (at_ends rounds s script (place + 1) qs (all_done behind s q (closing script place) w))
      (subst (λ (asks : List Ask). Ending rounds (behind_asks behind s q asks w)) (sym e.is)
      (asks_end rounds is.o b q less is.open_all.0 stays e.all w is.calm.held))
      (ports_end rounds b less (place + 1) qs (all_done behind s q (closing script place) w)
      apart_qs.1
      (end_calm laws conserve leaves s script apart placed rounds b less place q qs w apart_qs is))

pub emptyings_end : Laws → Conserve → LeaveAlone → (script : ScriptValue)
    (tables : RuleTables) (c : Capture) → HavePlaces script →
    All (FindsNothing (rounds_for c) (setting_of script tables) script)
    (emptyings script tables c)
emptyings_end laws conserve leaves script tables c places =
    let s = setting_of script tables in
    let rounds = rounds_for c in
    let apart = places.apart in
    let placed = places.placed in
    let b = 0 + 32 * length c.frames in
    let more : b < rounds = omega arith in
    All-from_recursion (FindsNothing rounds s script) (emptyings script tables c)
    (join (FindsNothing rounds s script)
    (at_pauses rounds s script c 1 c.frames (until_open s script))
    (until_fed s script c ∷ at_ends rounds s script 0 script.ports (until_ends s script c))
    (pauses_end laws conserve leaves s script apart placed rounds (at_first script) c 1 c.frames
    (until_open s script) 0 more (opened_held laws conserve leaves script tables places)) (
      finds_nothing laws conserve leaves s script apart placed rounds (at_first script)
          (until_fed s script c) b more (before_last laws conserve leaves script tables c places),
      ports_end laws conserve leaves s script apart placed rounds b more 0 script.ports
          (until_ends s script c) apart
          (before_end laws conserve leaves script tables c places),
    ))
