-- Ports that are opened.
use Rattle.std.proofs.Common.{◌≡◌, ℕ, suc, List, [], ◌∷◌, length, Option, Some, None, inl, inr}
use Rattle.std.proofs.Common.{refl, ap, ◌∙◌, arith}
use Rattle.std.specs.Prelude.{All, option_map}
use Rattle.std.proofs.Math.Path.{fun_ext}
use Rattle.std.proofs.lemmas.Bool.Decides.{eqb_tells}
use Rattle.std.proofs.lemmas.List.Elements.{All-head, All-tail}
use Rattle.packet_moves.specs.World.{opened}
use Rattle.packet_moves.specs.Planes.{opened_ports}
use Rattle.solo_plane.specs.declared.port.PortState.{PortState}
use Rattle.solo_plane.specs.PortPlaces.{place_in, stands_at}
use Rattle.solo_plane.specs.PortView.{port_of}

abbrev IsOpened : PortState → Type 0
IsOpened s = port_of s ≡ opened

each : (numbers : List ℕ) (states : List PortState) (p : ℕ) → length states ≡ length numbers →
    All IsOpened states →
    option_map port_of (stands_at states (place_in numbers p)) ≡ opened_ports numbers p
each [] states p as_many all = refl
each (n ∷ numbers) [] p as_many all = absurd (omega (arith, as_many))
each (n ∷ numbers) (s ∷ states) p as_many all =
    elim (eqb_tells p n) [
      | inl (test, same) ↦ rw test (ap (λ x. Some x) (All-head IsOpened s states all))
      | inr (test, other) ↦ rw test (behind (place_in numbers p)
          ∙ each numbers states p (omega (arith, as_many)) (All-tail IsOpened s states all))
    ]
  where
    behind : (o : Option ℕ) → option_map port_of (stands_at (s ∷ states) (option_map suc o))
        ≡ option_map port_of (stands_at states o)
    behind None = refl
    behind (Some k) = refl

pub all_opened : (numbers : List ℕ) (states : List PortState) → length states ≡ length numbers →
    All (λ s. port_of s ≡ opened) states →
    (λ p. option_map port_of (stands_at states (place_in numbers p))) ≡ opened_ports numbers
all_opened numbers states as_many all = fun_ext (λ p. each numbers states p as_many all)
