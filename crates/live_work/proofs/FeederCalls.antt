-- What the feeder does, call by call: frames that are fed and lines that take effect.
use Rattle.std.proofs.Common.{◌≡◌, ◌≤◌, ◌∙◌, ◌++◌, ◌∷◌, [], ℕ, List}
use Rattle.std.proofs.Common.{Option, Some, None, ap, append-nil, append_assoc, arith}
use Rattle.std.proofs.Common.{subst, sym}
use Rattle.std.specs.Prelude.{All, filter, option_map}
use Rattle.std.proofs.lemmas.Bool.{eqb-true}
use Rattle.std.proofs.lemmas.List.Elements.{filter_passes}
use Rattle.ip_fields.specs.Frame.{cut_of}
use Rattle.ip_fields.specs.declared.frame.LinkCut.{LinkCut}
use Rattle.packet_entry.specs.declared.packet.Card.{Card}
use Rattle.pcap_io.specs.declared.capture.Capture.{Capture}
use Rattle.pcap_io.specs.declared.capture.Frame.{Frame}
use Rattle.hook_chain.specs.declared.chain.Next.{Next}
use Rattle.script_lines.specs.declared.line.Down.{Down}
use Rattle.run_parts.specs.Entering.{card_at, card_of}
use Rattle.run_parts.specs.Feeder.{is_after}
use Rattle.live_runs.specs.Calls.{Feeds}
use Rattle.live_runs.specs.Owners.{IsFeeders, IsFeeding}
use Rattle.live_runs.specs.Seen.{Grows, Ours, OursAre, Seen, Shares, Theirs}
use Rattle.live_work.specs.Feeding.{FedOn}
use Rattle.histories.specs.declared.entry.Entry.{Entry}

-- ---- the laws

abbrev pub WaitsLaw : Type 0
WaitsLaw = (time later : ℕ) (fallen : List Down) (xs : List Seen) → time ≤ later →
    IsFeeding time fallen xs → IsFeeding later fallen xs

abbrev pub GrowsLaw : Type 0
GrowsLaw = (places : ℕ) (route : Next) (card : Card) (old new : Shares) →
    Feeds places route card old new → (k : ℕ) → Grows IsFeeders (old k) (new k)

-- ---- what grows

ours_both : (Q : Entry → Type 0) (xs ys : List Seen) → OursAre Q xs → OursAre Q ys →
    OursAre Q (xs ++ ys)
ours_both Q [] ys one two = two
ours_both Q (Ours e ∷ xs) ys one two = (one.0, ours_both Q xs ys one.1 two)
ours_both Q (Theirs e ∷ xs) ys one two = ours_both Q xs ys one two

pub grows_both : (Q : Entry → Type 0) (a b c : List Seen) → Grows Q a b → Grows Q b c → Grows Q a c
grows_both Q a b c one two = record {
  more = one.more ++ two.more;
  is = two.is ∙ ap (λ (l : List Seen). l ++ two.more) one.is
      ∙ append_assoc a one.more two.more;
  ours = ours_both Q one.more two.more one.ours two.ours;
}

pub grows_none : (Q : Entry → Type 0) (xs : List Seen) → Grows Q xs xs
grows_none Q xs = record { more = []; is = sym (append-nil xs); ours = tt }

-- ---- what is fed

pub fed_none : WaitsLaw → (places early late : ℕ) (shares : Shares) → early ≤ late →
    FedOn places early late [] shares shares
fed_none waits places early late shares sooner = record {
  on = λ time fallen within were k here.
      subst (λ (ds : List Down). IsFeeding late ds (shares k)) (sym (append-nil fallen))
      (waits time late fallen (shares k) (omega (arith, within, sooner)) (were k here));
  grows = λ k. grows_none IsFeeders (shares k);
}

pub fed_both : (places a b c d : ℕ) (ds es : List Down) (old mid new : Shares) → b ≤ c →
    FedOn places a b ds old mid → FedOn places c d es mid new →
    FedOn places a d (ds ++ es) old new
fed_both places a b c d ds es old mid new sooner one two = record {
  on = λ time fallen within were k here.
      subst (λ (l : List Down). IsFeeding d l (new k)) (append_assoc fallen ds es)
      (two.on b (fallen ++ ds) sooner (one.on time fallen within were) k here);
  grows = λ k. grows_both IsFeeders (old k) (mid k) (new k) (one.grows k) (two.grows k);
}

-- ---- lines of a frame

pub lines_after_one : (number : ℕ) (ds : List Down) →
    All (λ (d : Down). d.after ≡ number) (filter (is_after number) ds)
lines_after_one number ds i d within =
    eqb-true _ _ (filter_passes (is_after number) ds i d within)

-- ---- the packet of a frame

some_card : (capture : Capture) (number : ℕ) (frame : Frame) (o : Option LinkCut) (card : Card) →
    Some card ≡ option_map (card_at capture number frame) o →
    (card.visit ≡ 0) × (card.number ≡ number)
some_card capture number frame None card is = absurd (cc)
some_card capture number frame (Some cut) card is =
    let same : card ≡ card_at capture number frame cut = cc in
    (ap (λ (k : Card). k.visit) same, ap (λ (k : Card). k.number) same)

pub card_is : (capture : Capture) (number : ℕ) (frame : Frame) (card : Card) →
    Some card ≡ card_of capture number frame → (card.visit ≡ 0) × (card.number ≡ number)
card_is capture number frame card is =
    some_card capture number frame (cut_of capture.link frame.bytes) card is
