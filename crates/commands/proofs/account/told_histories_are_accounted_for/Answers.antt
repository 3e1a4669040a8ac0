use Rattle.std.proofs.Common.{◌≡◌, ◌+◌, ℕ, List, [], ◌∷◌, length, suc, arith, ap, refl}
use Rattle.std.specs.Prelude.{count_by, ◌==◌}
use Rattle.pcap_io.specs.declared.capture.Capture.{Capture}
use Rattle.pcap_io.specs.declared.capture.Frame.{Frame}
use Rattle.histories.specs.declared.histories.Histories.{Histories}
use Rattle.histories.specs.declared.histories.Lost.{Lost}
use Rattle.run_parts.specs.Entering.{cards}
use Rattle.fate_ledger.specs.declared.happening.Happening.{Happening}
use Rattle.fate_ledger.specs.Fates.{fates_from, happenings, is_lost}
use Rattle.run_files.specs.Outputs.{fates_of}
use Rattle.commands.proofs.account.told_histories_are_accounted_for.Goals as goal

-- one line for each frame
lines_from : (hs : List Happening) (lost : List Lost) (number : ℕ) (fs : List Frame) →
    length fs ≡ length (fates_from hs lost number fs)
lines_from hs lost number [] = refl
lines_from hs lost number (f ∷ fs) = ap suc (lines_from hs lost (number + 1) fs)

one_line_each : (c : Capture) (h : Histories) → length c.frames ≡ length (fates_of c h)
one_line_each c h = lines_from (happenings h.entries) h.lost 1 c.frames

pub returns : goal.returns
returns c = λ workers feeders tables script capture h formed run.
    let apart = c.no_visit_arrives_twice.ensures tables script.key (cards capture) h.entries h.lost
    (c.packets_of_a_capture_differ.ensures capture) run.sound in
    record {
      run = run;
      formed = formed;
      apart = apart;
      once = λ number queues are.
          let each = c.each_packet_waits_is_lost_or_is_over.ensures tables script.key number queues
          (cards capture) h.entries h.lost are run.sound in
          omega (
            arith,
            each,
            ap (λ (ls : List Lost). count_by (λ (l : Lost). l.number == number) ls) run.nothing_lost,
          );
      lines =
          record {
            named = λ place f l is_f is_l.
                c.each_line_names_the_last_event.ensures h capture.frames place f l run.legal is_f
                is_l;
            left = λ number last is_last other.
                c.what_left_last_is_over.ensures.over tables script.key number (cards capture)
                h.entries h.lost last run.legal run.sound
                (ap (λ (ls : List Lost). is_lost ls number) run.nothing_lost) is_last other;
            waits = λ number last is_last waiting.
                c.the_last_event_is_where_it_left_or_waits.ensures.waits h.entries number last run.legal
                apart is_last waiting;
          };
      released = c.released_frames_are_those_let_go.ensures.order capture.link capture.frames
          (fates_of capture h) (one_line_each capture h);
    }
