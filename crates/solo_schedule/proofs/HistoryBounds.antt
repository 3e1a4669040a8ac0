-- The schedule's histories are within bounds, and packets enter with their frames' bytes.
use Rattle.std.proofs.Common.{◌≡◌, ◌≤◌, ℕ, List, [], ◌∷◌, length}
use Rattle.std.proofs.Common.{Bool, true, false, cond, refl, sym, subst}
use Rattle.std.specs.Prelude.{All}
use Rattle.nfqa_msgs.specs.RequestReading.{PayloadFits}
use Rattle.std.specs.List.{AllByRecursion}
use Rattle.std.proofs.lemmas.Bool.{eq-eqb}
use Rattle.std.proofs.lemmas.List.Elements.{recursion_from_All, All-from_recursion}
use Rattle.packet_entry.specs.Numbers.{longest_packet}
use Rattle.pcap_io.specs.declared.capture.Capture.{Capture}
use Rattle.pcap_io.specs.declared.capture.Frame.{Frame}
use Rattle.queue_core.specs.declared.event.Event.TheVariants.{Arrive, Ask}
use Rattle.packet_entry.specs.declared.packet.Card.{Card}
use Rattle.nfqa_msgs.specs.declared.request.Request.{Request}
use Rattle.hook_chain.specs.Rules.{RuleTables}
use Rattle.histories.specs.declared.entry.Entry.{Entry}
use Rattle.histories.specs.declared.histories.Histories.{Histories}
use Rattle.histories.specs.History.{history, is_of}
use Rattle.inspector_script.specs.Scripts.{ScriptValue, IsScript, IsBlock}
use Rattle.solo_schedule.specs.Schedule.{IsSolo, run, setting_of}
use Rattle.histories.specs.Lengths.{AreShort}
use Rattle.histories.specs.Lengths.{AreSmall}
use Rattle.histories.specs.Holding.{in_history}
use Rattle.solo_schedule.proofs.PacketProperties.{Fits, Fitting, AllFit}
use Rattle.solo_schedule.proofs.PacketBounds.{WordsFit, run_fits}

-- entries whose histories are within bounds are so
each_fits : (es : List Entry) → ((queue : ℕ) → AllFit (history queue es)) → AllFit es
each_fits [] at = tt
each_fits (e ∷ es) at = (
  (subst (λ (b : Bool). AllFit (cond b (e ∷ history e.queue es) (history e.queue es)))
      (eq-eqb e.queue e.queue refl) (at e.queue)).0,
  each_fits es (λ queue. rest queue (is_of queue e) (at queue)),
)
  where
    rest : (queue : ℕ) (c : Bool) →
        AllFit (cond c (e ∷ history queue es) (history queue es)) → AllFit (history queue es)
    rest queue true fit = fit.1
    rest queue false fit = fit

small_each : (es : List Entry) → AllFit es →
    AllByRecursion (λ (e : Entry). (card : Card) (bypass room : Bool) →
    e.event ≡ Arrive card bypass room → length card.bytes ≤ longest_packet) es
small_each [] fit = tt
small_each (e ∷ es) fit = (λ card bypass room is. subst Fits is fit.0, small_each es fit.1)

short_each : (es : List Entry) → AllFit es →
    AllByRecursion (λ (e : Entry). (port call : ℕ) (request : Request) →
    e.event ≡ Ask port call request → PayloadFits request) es
short_each [] fit = tt
short_each (e ∷ es) fit = (λ port call request is. subst Fits is fit.0, short_each es fit.1)

module _ (fit : WordsFit) (script : ScriptValue) (tables : RuleTables) (c : Capture)
    (h : Histories) (is : IsScript script)
    (frames : All (λ (f : Frame). length f.bytes ≤ longest_packet) c.frames)
    (solo : IsSolo script tables c h) where
  entries_fit : AllFit h.entries
  entries_fit =
      let fits : AllFit (run script tables c).entries =
      run_fits fit (setting_of script tables) script
      (recursion_from_All IsBlock script.blocks is.each) c
      (recursion_from_All (λ (f : Frame). length f.bytes ≤ longest_packet) c.frames frames) in
      each_fits h.entries (λ queue. subst AllFit (sym (solo.entries.same queue))
      (in_history Fitting queue (run script tables c).entries fits))

  pub packets_small : AreSmall h.entries
  packets_small = All-from_recursion _ h.entries (small_each h.entries entries_fit)

  pub payloads_short : AreShort h.entries
  payloads_short = All-from_recursion _ h.entries (short_each h.entries entries_fit)
