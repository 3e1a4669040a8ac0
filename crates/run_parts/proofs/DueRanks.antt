-- Order: a history that is in order goes on with an entry that is of the stage.
use Rattle.std.proofs.Common.{◌≡◌, ◌≤◌, ◌∙◌, ℕ, suc, List, [], ◌∷◌, ◌++◌, Option, Some}
use Rattle.std.proofs.Common.{None, Bool, true, false, refl, sym, ap, subst, inr, arith}
use Rattle.std.proofs.Common.{append-nil}
use Rattle.std.specs.Prelude.{flat_map, map, length, ◌==◌, if◌then◌else◌}
use Rattle.std.proofs.lemmas.List.{map-append}
use Rattle.std.proofs.lemmas.List.Concat.{flat_map-append}
use Rattle.std.proofs.lemmas.List.Elements.{filter-append}
use Rattle.queue_core.specs.State.{Bound}
use Rattle.queue_core.specs.declared.event.Event.TheVariants.{PortClosed, DeviceDown}
use Rattle.histories.specs.declared.entry.Entry.{Entry}
use Rattle.histories.specs.History.{history, is_of}
use Rattle.histories.specs.States.{entry_in, state_of}
use Rattle.histories.specs.Happenings as happening
use Rattle.run_parts.specs.Ports.{place_in}
use Rattle.run_parts.specs.Order.{Kind, Marked}
use Rattle.run_parts.specs.Order.{kinds_of, early_rank, late_ranks}
use Rattle.run_parts.proofs.FeederLines.{ClosingLaw, DownLaw}
use Rattle.run_parts.proofs.AscendingNumbers.{rise_push, rise_later, history_push_own}
use Rattle.run_parts.specs.Order.{IsOrdered}
use Rattle.run_parts.specs.Underway.{Rise, IsNow, Told, Ordered, AllOrdered, unasked}

module _ (ports : List ℕ) where
  pub ordered_later : (e f l n : ℕ) (told more : ℕ → List Kind) (h : List Entry) → e ≤ f → l ≤ n →
      ((port : ℕ) → told port ≡ more port) → Ordered ports e l told h → Ordered ports f n more h
  ordered_later e f l n told more h up on same is = record {
    marks = is.marks;
    entries = is.entries;
    kinds = λ port. is.kinds port ∙ same port;
    early = rise_later e f (map (early_rank ports) is.marks) up is.early;
    late = rise_later l n (flat_map (late_ranks ports) is.marks) on is.late;
  }

  pub ordered_push : (e l : ℕ) (told more : ℕ → List Kind) (h : List Entry) (m : Marked) →
      early_rank ports m ≡ e → IsNow l (late_ranks ports m) →
      ((port : ℕ) → told port ++ kinds_of port m ≡ more port) → Ordered ports e l told h →
      Ordered ports e l more (h ++ m.entry ∷ [])
  ordered_push e l told more h m first last same is = record {
    marks = is.marks ++ m ∷ [];
    entries = map-append (λ (m : Marked). m.entry) is.marks (m ∷ [])
        ∙ ap (λ es. es ++ m.entry ∷ []) is.entries;
    kinds = λ port. flat_map-append (kinds_of port) is.marks (m ∷ [])
        ∙ ap (λ ks. flat_map (kinds_of port) is.marks ++ ks) (append-nil (kinds_of port m))
        ∙ ap (λ ks. ks ++ kinds_of port m) (is.kinds port) ∙ same port;
    early = subst (Rise e) (sym (map-append (early_rank ports) is.marks (m ∷ [])))
        (rise_push e (map (early_rank ports) is.marks) (early_rank ports m ∷ [])
        (inr (ap (λ k. k ∷ []) first)) is.early);
    late = subst (Rise l) (sym (flat_map-append (late_ranks ports) is.marks (m ∷ [])
        ∙ ap (λ ks. flat_map (late_ranks ports) is.marks ++ ks) (append-nil (late_ranks ports m))))
        (rise_push l (flat_map (late_ranks ports) is.marks) (late_ranks ports m) last is.late);
  }

  -- ---- all queues

  pub all_ordered_later : (e f l n : ℕ) (told more : Told) (es : List Entry) → e ≤ f → l ≤ n →
      ((queue port : ℕ) → told queue port ≡ more queue port) → AllOrdered ports e l told es →
      AllOrdered ports f n more es
  all_ordered_later e f l n told more es up on same is = record {
    each = λ queue below. ordered_later e f l n (told queue) (more queue) (history queue es) up on
        (same queue) (is.each queue below);
  }

  -- an entry of some queue
  pub entry_ordered : (e l : ℕ) (told more : Told) (es : List Entry) (m : Marked) →
      early_rank ports m ≡ e → IsNow l (late_ranks ports m) →
      ((queue port : ℕ) → is_of queue m.entry ≡ false → told queue port ≡ more queue port) →
      ((queue port : ℕ) → is_of queue m.entry ≡ true →
      told queue port ++ kinds_of port m ≡ more queue port) →
      AllOrdered ports e l told es → AllOrdered ports e l more (es ++ m.entry ∷ [])
  entry_ordered e l told more es m first last other own is = record {
    each = λ queue below. history_push_own (Ordered ports e l (more queue)) queue es m.entry
        (λ away. ordered_later e e l l (told queue) (more queue) (history queue es)
        (omega arith) (omega arith) (λ port. other queue port away) (is.each queue below))
        (λ here. ordered_push e l (told queue) (more queue) (history queue es) m first last
        (λ port. own queue port here) (is.each queue below));
  }

  pub unasked_ordered : (e l : ℕ) (told : Told) (es : List Entry) (x : Entry) →
      early_rank ports (unasked x) ≡ e → IsNow l (late_ranks ports (unasked x)) →
      ((port : ℕ) → kinds_of port (unasked x) ≡ []) → AllOrdered ports e l told es →
      AllOrdered ports e l told (es ++ x ∷ [])
  unasked_ordered e l told es x first last none is =
      entry_ordered e l told told es (unasked x) first last (λ queue port away. refl)
      (λ queue port here. ap (λ ks. told queue port ++ ks) (none port)
      ∙ append-nil (told queue port)) is

  closing_ordered : (l port queue : ℕ) (told : ℕ → List Kind) (h : List Entry)
      (o : Option Bound) → l ≡ suc (place_in port ports) → Ordered ports (length ports) l told h →
      Ordered ports (length ports) l told (h ++ happening.closing_of port queue o)
  closing_ordered l port queue told h None at is =
      subst (Ordered ports (length ports) l told) (sym (append-nil h)) is
  closing_ordered l port queue told h (Some b) at is = by (b.port == port)
    where
      by : (c : Bool) → Ordered ports (length ports) l told
          (h ++ (if c then entry_in queue (Some b) (PortClosed port) ∷ [] else []))
      by true = ordered_push (length ports) l told told h
          (unasked (entry_in queue (Some b) (PortClosed port))) refl
          (inr (ap (λ k. k ∷ []) (sym at))) (λ p. append-nil (told p)) is
      by false = subst (Ordered ports (length ports) l told) (sym (append-nil h)) is

  pub closings_ordered : ClosingLaw → (l port : ℕ) (told : Told) (es : List Entry) →
      l ≡ suc (place_in port ports) → AllOrdered ports (length ports) l told es →
      AllOrdered ports (length ports) l told (es ++ happening.closings port es)
  closings_ordered law l port told es at is = record {
    each = λ queue below. subst (Ordered ports (length ports) l (told queue))
        (sym (filter-append (is_of queue) es (happening.closings port es)
        ∙ ap (λ fs. history queue es ++ fs) (law port queue es below)))
        (closing_ordered l port queue (told queue) (history queue es) (state_of es queue) at
        (is.each queue below));
  }

  down_ordered : (device queue : ℕ) (told : ℕ → List Kind) (h : List Entry) (o : Option Bound) →
      Ordered ports (length ports) 0 told h →
      Ordered ports (length ports) 0 told (h ++ happening.down_of device queue o)
  down_ordered device queue told h None is =
      subst (Ordered ports (length ports) 0 told) (sym (append-nil h)) is
  down_ordered device queue told h (Some b) is =
      ordered_push (length ports) 0 told told h
      (unasked (entry_in queue (Some b) (DeviceDown device))) refl (inr refl)
      (λ p. append-nil (told p)) is

  pub downs_ordered : DownLaw → (device : ℕ) (told : Told) (es : List Entry) →
      AllOrdered ports (length ports) 0 told es →
      AllOrdered ports (length ports) 0 told (es ++ happening.downs device es)
  downs_ordered law device told es is = record {
    each = λ queue below. subst (Ordered ports (length ports) 0 (told queue))
        (sym (filter-append (is_of queue) es (happening.downs device es)
        ∙ ap (λ fs. history queue es ++ fs) (law device queue es below)))
        (down_ordered device queue (told queue) (history queue es) (state_of es queue)
        (is.each queue below));
  }

  -- then it is in order
  pub is_ordered : (e l : ℕ) (told : ℕ → List Kind) (h : List Entry) → Ordered ports e l told h →
      IsOrdered ports told h
  is_ordered e l told h is = record {
    marks = is.marks;
    entries = is.entries;
    kinds = is.kinds;
    early = is.early.ascend;
    late = is.late.ascend;
  }
