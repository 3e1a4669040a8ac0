-- A run goes on.
use Rattle.std.proofs.Common.{◌≡◌, ◌≢◌, ◌<◌, ◌⊎◌, ℕ, List, [], length}
use Rattle.std.proofs.Common.{refl, sym, ap, subst, ◌∙◌, arith, inl, inr}
use Rattle.std.proofs.lemmas.Bool.Decides.{Decides-eqb}
use Rattle.std.proofs.lemmas.List.Elements.{Contains-get_or}
use Rattle.std.proofs.lemmas.Map.Views.{list_any-from_Contains}
use Rattle.std.proofs.lemmas.Map.Made.{IsDistinct-from_AllPairs}
use Rattle.std.specs.List.{IsDistinct}
use Rattle.std.specs.Cmp.{nat_eq_equiv}
use Rattle.std.specs.Prelude.{nat_eq}
use Rattle.packet_moves.specs.World.{opened}
use Rattle.packet_moves.specs.Planes.{beginning, opened_ports}
use Rattle.std.specs.Prelude.{slice_index_or, slice_index, AllPairs, Some}
use Rattle.std.proofs.lemmas.Bool.Decides.{eqb_tells}
use Rattle.inspector_script.specs.Scripts.{ScriptValue}
use Rattle.packet_moves.specs.declared.setting.Setting.{Setting}
use Rattle.packet_moves.specs.World.{World}
use Rattle.packet_moves.specs.Soundness.{IsSound}
use Rattle.solo_run.specs.RunState.{AreOpen, IsGoing, mind_of, mind_at, port_at}
use Rattle.solo_schedule.specs.Schedule.{is_open_port}
use Rattle.solo_run.specs.declared.inspector.Inspector.{Inspector}
use Rattle.solo_run.proofs.Minds.{SameMinds}

pub goes_same : (script : ScriptValue) (s : Setting) (old new : World) (minds : List Inspector) →
    IsGoing script s old minds → new.lost ≡ [] → IsSound s [] new →
    SameMinds old.ports new.ports → IsGoing script s new minds
goes_same script s old new minds is whole sound same = record {
  whole = whole;
  sound = sound;
  as_many = is.as_many;
  each = λ place d within.
      is.each place d within ∙ sym (same place (port_at script place));
  apart = is.apart;
}

lt_or_gt : (j k : ℕ) → j ≢ k → (j < k) ⊎ (k < j)
lt_or_gt j k other = grind (arith, other)

pub ports_apart : (script : ScriptValue) → AllPairs (λ p q. p ≢ q) script.ports → (j k : ℕ) →
    j < length script.ports → k < length script.ports → j ≢ k →
    port_at script j ≢ port_at script k
ports_apart script apart j k j_in k_in other same =
    elim (lt_or_gt j k other) [
      | inl less ↦ apart j k 0 less k_in same
      | inr more ↦ apart k j 0 more j_in (sym same)
    ]

pub goes_at : (script : ScriptValue) (s : Setting) (old new : World) (minds after : List Inspector)
    (place : ℕ) (f : Inspector → Inspector) → place < length script.ports →
    IsGoing script s old minds → new.lost ≡ [] → IsSound s [] new →
    length after ≡ length minds →
    ((k : ℕ) (d : Inspector) → k ≢ place → slice_index_or after k d ≡ slice_index_or minds k d) →
    ((d : Inspector) → slice_index_or after place d ≡ f (slice_index_or minds place d)) →
    ((k p : ℕ) → p ≢ port_at script place → mind_of k (new.ports p) ≡ mind_of k (old.ports p)) →
    mind_at script new place ≡ f (mind_at script old place) →
    IsGoing script s new after
goes_at script s old new minds after place f within is whole sound many others this same at =
    record {
      whole = whole;
      sound = sound;
      as_many = many ∙ is.as_many;
      each = λ k d k_in.
          elim (eqb_tells k place) [
            | inl (yes_, equal) ↦ at_place k d equal
            | inr (no_, other) ↦
                others k d other ∙ is.each k d k_in
                ∙ sym (same k (port_at script k)
                (ports_apart script is.apart k place k_in within other))
          ];
      apart = is.apart;
    }
  where
    at_place : (k : ℕ) (d : Inspector) → k ≡ place →
        slice_index_or after k d ≡ mind_at script new k
    at_place k d equal =
        ap (λ (n : ℕ). slice_index_or after n d) equal ∙ this d ∙ ap f (is.each place d within)
        ∙ sym at ∙ sym (ap (mind_at script new) equal)

-- the same under other names
pub goes_as : (script : ScriptValue) (s t : Setting) (w : World) (minds others : List Inspector) →
    t ≡ s → others ≡ minds → IsGoing script s w minds → IsGoing script t w others
goes_as script s t w minds others setting same is =
    subst (λ (l : List Inspector). IsGoing script t w l) (sym same)
    (subst (λ (u : Setting). IsGoing script u w minds) (sym setting) is)

-- ---- the beginning

pub apart_ports : (ports : List ℕ) → AllPairs (λ p q. p ≢ q) ports → IsDistinct nat_eq ports
apart_ports ports apart = IsDistinct-from_AllPairs Decides-eqb ports apart

pub opened_at : (ports : List ℕ) (place : ℕ) → place < length ports →
    opened_ports ports (slice_index ports place) ≡ Some opened
opened_at ports place within =
    rw (list_any-from_Contains nat_eq_equiv (slice_index ports place) ports
    (Contains-get_or ports place 0 within)) refl

pub goes_first : (script : ScriptValue) (s : Setting) (w : World) (minds : List Inspector)
    (many : ℕ) → w ≡ beginning script.ports → IsSound s [] (beginning script.ports) →
    length minds ≡ many → many ≡ length script.ports →
    ((place : ℕ) (d : Inspector) → place < many →
    slice_index_or minds place d ≡ mind_of place (Some opened)) →
    AllPairs (λ p q. p ≢ q) script.ports → IsGoing script s w minds
goes_first script s w minds many is sound as_many all each apart =
    subst (λ (v : World). IsGoing script s v minds) (sym is) (record {
      whole = refl;
      sound = sound;
      as_many = as_many ∙ all;
      each = λ place d within.
          each place d (omega (arith, all, within))
          ∙ ap (mind_of place) (sym (opened_at script.ports place within));
      apart = apart;
    })

pub are_opened : (script : ScriptValue) (w : World) → w ≡ beginning script.ports →
    AreOpen script w 0
are_opened script w is place later within =
    ap (λ (v : World). is_open_port (v.ports (port_at script place))) is
    ∙ ap is_open_port (opened_at script.ports place within)
