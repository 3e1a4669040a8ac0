-- A port's pass receives a letter, or finds none.
use Rattle.std.proofs.Common.{◌++◌, ◌∙◌, ◌∷◌, ◌≡◌, List, None, Some, [], ap, append-nil, refl, sym}
use Rattle.std.specs.Prelude.{map}
use Rattle.packet_entry.specs.declared.letter.Letter.{Letter}
use Rattle.live_runs.specs.Passes.{Receives}
use Rattle.live_runs.specs.Seen.{Grows, IsNone, Seen}
use Rattle.live_passes.specs.Views.{port_pass, shares_of}
use Rattle.mailbox.specs.declared.view.Post.{Post}
use Rattle.plane.specs.Passes.{PortView}
use Rattle.plane.specs.Passes as view

one_more : (posts : List Post) (p : Post) →
    map (λ (q : Post). q.letter) (posts ++ p ∷ [])
    ≡ map (λ (q : Post). q.letter) posts ++ p.letter ∷ []
one_more [] p = refl
one_more (q ∷ posts) p = ap (λ ls. q.letter ∷ ls) (one_more posts p)

nothing_new : (xs ys : List Seen) → ys ≡ xs → Grows IsNone xs ys
nothing_new xs ys same = record { more = []; is = same ∙ sym (append-nil xs); ours = tt }

pub received_one : (old new : PortView) (l : Letter) → view.Receives old new (Some l) →
    Receives l (port_pass old) (port_pass new)
received_one old new l (from, time, is) = record {
  logged = ap (λ (p : PortView). p.dids) is;
  letters = ap (λ (p : PortView). map (λ (q : Post). q.letter) p.receiver.received) is
      ∙ one_more old.receiver.received (record { from = from; letter = l; time = time });
  shares = λ k. nothing_new (shares_of old.trail.known k) (shares_of new.trail.known k)
      (ap (λ (p : PortView). shares_of p.trail.known k) is);
}

pub received_none : (old new : PortView) → view.Receives old new None →
    port_pass new ≡ port_pass old
received_none old new is = ap port_pass is
