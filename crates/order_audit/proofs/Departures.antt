-- The packets that left, and those that were taken, as entries go.
use Rattle.std.proofs.Common.{◌≡◌, ℕ, List, [], ◌∷◌, ◌++◌, refl, sym, ap, subst, ◌∙◌, inl, inr}
use Rattle.std.proofs.Common.{Bool, true, false, append_assoc, append-nil, Option, None}
use Rattle.std.specs.Prelude.{◌==◌, ◌↔◌, ◌⊎◌, ◌&&◌, nat_eq}
use Rattle.std.proofs.lemmas.Bool.{or_cases, or_left, or_right, cases_Bool, eq-eqb, eqb-true}
use Rattle.packet_entry.specs.declared.packet.Card.{Card}
use Rattle.queue_core.specs.State.{Bound}
use Rattle.queue_core.specs.Step.{step}
use Rattle.queue_core.specs.Laws.{leaving_in}
use Rattle.queue_core.specs.declared.event.Event.{Event}
use Rattle.queue_core.specs.declared.event.Event.TheVariants.{Arrive, Ask, PortClosed, DeviceDown}
use Rattle.queue_core.specs.declared.event.Reply.{Reply}
use Rattle.queue_core.specs.declared.event.Reply.TheVariants.{Arrived, Answer, Flushed}
use Rattle.queue_core.specs.declared.offers.Outcome.TheVariants.{Taken}
use Rattle.histories.specs.declared.entry.Entry.{Entry}
use Rattle.histories.specs.History.{history, replay, replay_from}
use Rattle.histories.specs.Stays.{departures, departures_from}
use Rattle.queue_replay.specs.Leaving.{visits_of}
use Rattle.histories.specs.QueueHistories.{own_last, others_last}
use Rattle.total_order.specs.Steps.{Has, HasLeft, taken, taken_by}
use Rattle.order_audit.specs.Sets.{is_pair, is_among, notifies, notifies_by}

-- ---- packets among others

-- a packet of two lists is of the one or of the other
has_more : (number visit : ℕ) (cs ds : List Card) →
    Has number visit (cs ++ ds) ↔ (Has number visit cs ⊎ Has number visit ds)
has_more number visit cs ds = (split cs, join cs)
  where
    split : (cs : List Card) → Has number visit (cs ++ ds) →
        Has number visit cs ⊎ Has number visit ds
    split [] h = inr h
    split (c ∷ cs) (inl e) = inl (inl e)
    split (c ∷ cs) (inr h) = elim (split cs h) [ inl a ↦ inl (inr a) | inr b ↦ inr b ]

    join : (cs : List Card) → Has number visit cs ⊎ Has number visit ds →
        Has number visit (cs ++ ds)
    join [] (inl h) = absurd h
    join [] (inr h) = h
    join (c ∷ cs) (inl (inl e)) = inl e
    join (c ∷ cs) (inl (inr h)) = inr (join cs (inl h))
    join (c ∷ cs) (inr h) = inr (join cs (inr h))

-- a pair that is this one has its parts
pub pair_parts : (a b : ℕ) (x : ℕ × ℕ) → is_pair a b x ≡ true → (x.0 ≡ a) × (x.1 ≡ b)
pair_parts a b x e = by (nat_eq x.0 a) (nat_eq x.1 b) refl refl e
  where
    by : (c d : Bool) → nat_eq x.0 a ≡ c → nat_eq x.1 b ≡ d → c && d ≡ true →
        (x.0 ≡ a) × (x.1 ≡ b)
    by true true p q e = (eqb-true x.0 a p, eqb-true x.1 b q)
    by true false p q e = absurd (cc e)
    by false d p q e = absurd (cc e)

-- and the other way round
pair_from : (a b : ℕ) (x : ℕ × ℕ) → x.0 ≡ a → x.1 ≡ b → is_pair a b x ≡ true
pair_from a b x p q =
    ap (λ c. c && nat_eq x.1 b) (eq-eqb x.0 a p) ∙ eq-eqb x.1 b q

-- a packet is among these, by its number and visit
pub among_has : (number visit : ℕ) (cs : List Card) →
    (is_among number visit (visits_of cs) ≡ true) ↔ Has number visit cs
among_has number visit cs = (to cs, from cs)
  where
    to : (cs : List Card) → is_among number visit (visits_of cs) ≡ true → Has number visit cs
    to [] e = absurd (cc e)
    to (c ∷ cs) e = elim (or_cases (is_pair number visit (c.number, c.visit))
        (is_among number visit (visits_of cs)) e) [
          | inl here ↦ inl (pair_parts number visit (c.number, c.visit) here)
          | inr there ↦ inr (to cs there)
        ]

    from : (cs : List Card) → Has number visit cs → is_among number visit (visits_of cs) ≡ true
    from [] h = absurd h
    from (c ∷ cs) (inl e) = or_left (is_pair number visit (c.number, c.visit))
        (is_among number visit (visits_of cs))
        (pair_from number visit (c.number, c.visit) e.0 e.1)
    from (c ∷ cs) (inr h) = or_right (is_pair number visit (c.number, c.visit))
        (is_among number visit (visits_of cs)) (from cs h)

-- ---- one entry more

-- what leaves in the last entry is added to what left
departed : (q : Option Bound) (es : List Entry) (e : Entry) →
    departures_from q (es ++ e ∷ [])
    ≡ departures_from q es ++ leaving_in (step (replay_from q es) e.event)
departed q [] e = append-nil (leaving_in (step q e.event))
departed q (d ∷ es) e =
    ap (λ cs. leaving_in (step q d.event) ++ cs) (departed (step q d.event).state es e)
    ∙ sym (append_assoc (leaving_in (step q d.event)) (departures_from (step q d.event).state es)
    (leaving_in (step (replay_from (step q d.event).state es) e.event)))

-- and so is what it takes
taken_more : (es : List Entry) (e : Entry) →
    taken (es ++ e ∷ []) ≡ taken es ++ taken_by e.event e.reply
taken_more [] e = append-nil (taken_by e.event e.reply)
taken_more (d ∷ es) e =
    ap (λ cs. taken_by d.event d.reply ++ cs) (taken_more es e)
    ∙ sym (append_assoc (taken_by d.event d.reply) (taken es) (taken_by e.event e.reply))

module _ (es : List Entry) (e : Entry) (number visit : ℕ) where
  -- the packet left before, or it leaves now
  pub left_more : HasLeft number visit (es ++ e ∷ [])
      ↔ (Has number visit (leaving_in (step (replay (history e.queue es)) e.event))
      ⊎ HasLeft number visit es)
  left_more = (split, join)
    where
      whole : departures (history e.queue (es ++ e ∷ []))
          ≡ departures (history e.queue es)
          ++ leaving_in (step (replay (history e.queue es)) e.event)
      whole = ap departures (own_last es e) ∙ departed None (history e.queue es) e

      split : HasLeft number visit (es ++ e ∷ []) →
          Has number visit (leaving_in (step (replay (history e.queue es)) e.event))
          ⊎ HasLeft number visit es
      split has = elim (cases_Bool (e.queue == has.queue)) [
        | inl own ↦ elim ((has_more number visit (departures (history e.queue es))
            (leaving_in (step (replay (history e.queue es)) e.event))).0
            (subst (λ cs. Has number visit cs) whole
            (subst (λ q. Has number visit (departures (history q (es ++ e ∷ []))))
            (sym (eqb-true e.queue has.queue own)) has.left))) [
              | inl before ↦ inr (record { queue = e.queue; left = before })
              | inr now ↦ inl now
            ]
        | inr other ↦ inr (record {
          queue = has.queue;
          left = subst (λ hs. Has number visit (departures hs))
              (others_last es e has.queue other) has.left;
        })
      ]

      join : Has number visit (leaving_in (step (replay (history e.queue es)) e.event))
          ⊎ HasLeft number visit es → HasLeft number visit (es ++ e ∷ [])
      join (inl now) = record {
        queue = e.queue;
        left = subst (λ cs. Has number visit cs) (sym whole)
            ((has_more number visit (departures (history e.queue es))
            (leaving_in (step (replay (history e.queue es)) e.event))).1 (inr now));
      }
      join (inr has) = elim (cases_Bool (e.queue == has.queue)) [
        | inl own ↦ record {
          queue = e.queue;
          left = subst (λ cs. Has number visit cs) (sym whole)
              ((has_more number visit (departures (history e.queue es))
              (leaving_in (step (replay (history e.queue es)) e.event))).1
              (inl (subst (λ q. Has number visit (departures (history q es)))
              (sym (eqb-true e.queue has.queue own)) has.left)));
        }
        | inr other ↦ record {
          queue = has.queue;
          left = subst (λ hs. Has number visit (departures hs))
              (sym (others_last es e has.queue other)) has.left;
        }
      ]

  -- the queue took it before, or it takes it now
  pub taken_one_more : (queue : ℕ) → Has number visit (taken (history queue (es ++ e ∷ [])))
      ↔ ((notifies queue number visit e ≡ true) ⊎ Has number visit (taken (history queue es)))
  taken_one_more queue = elim (cases_Bool (e.queue == queue)) [
    | inl own ↦ subst (λ q. Has number visit (taken (history q (es ++ e ∷ [])))
        ↔ ((notifies q number visit e ≡ true) ⊎ Has number visit (taken (history q es))))
        (eqb-true e.queue queue own) at_own
    | inr other ↦ (
      (λ has. inr (subst (λ hs. Has number visit (taken hs)) (others_last es e queue other) has)),
      (λ h. elim h [
        | inl is ↦ absurd (elsewhere other e.event e.reply is)
        | inr has ↦ subst (λ hs. Has number visit (taken hs))
            (sym (others_last es e queue other)) has
      ]),
    )
  ]
    where
      elsewhere : (e.queue == queue) ≡ false → (ev : Event) (r : Reply) →
          notifies_by e.queue queue number visit ev r ≡ true → ⊥
      elsewhere other (Arrive card bypass room) (Arrived (Taken id)) is =
          let no : (e.queue == queue) && is_pair number visit (card.number, card.visit) ≡ false =
          ap (λ b. b && is_pair number visit (card.number, card.visit)) other in
          let wrong : true ≡ false = sym is ∙ no in cc
      elsewhere other (Arrive card bypass room) (Arrived o) is = absurd (cc is)
      elsewhere other (Arrive card bypass room) (Answer errno taken) is = absurd (cc is)
      elsewhere other (Arrive card bypass room) (Flushed taken) is = absurd (cc is)
      elsewhere other (Ask port call request) r is = absurd (cc is)
      elsewhere other (PortClosed port) r is = absurd (cc is)
      elsewhere other (DeviceDown device) r is = absurd (cc is)

      here : (ev : Event) (r : Reply) →
          (notifies_by e.queue e.queue number visit ev r ≡ true) ↔ Has number visit (taken_by ev r)
      here (Arrive card bypass room) (Arrived (Taken id)) = (
        (λ is. inl (pair_parts number visit (card.number, card.visit)
            (sym (ap (λ b. b && is_pair number visit (card.number, card.visit))
            (eq-eqb e.queue e.queue refl)) ∙ is))),
        (λ h. elim h [
          | inl same ↦ ap (λ b. b && is_pair number visit (card.number, card.visit))
              (eq-eqb e.queue e.queue refl)
              ∙ pair_from number visit (card.number, card.visit) same.0 same.1
          | inr none ↦ absurd none
        ]),
      )
      here (Arrive card bypass room) (Arrived o) = ((λ is. absurd (cc is)), (λ h. absurd h))
      here (Arrive card bypass room) (Answer errno taken) =
          ((λ is. absurd (cc is)), (λ h. absurd h))
      here (Arrive card bypass room) (Flushed taken) = ((λ is. absurd (cc is)), (λ h. absurd h))
      here (Ask port call request) r = ((λ is. absurd (cc is)), (λ h. absurd h))
      here (PortClosed port) r = ((λ is. absurd (cc is)), (λ h. absurd h))
      here (DeviceDown device) r = ((λ is. absurd (cc is)), (λ h. absurd h))

      whole : taken (history e.queue (es ++ e ∷ []))
          ≡ taken (history e.queue es) ++ taken_by e.event e.reply
      whole = ap taken (own_last es e) ∙ taken_more (history e.queue es) e

      at_own : Has number visit (taken (history e.queue (es ++ e ∷ [])))
          ↔ ((notifies e.queue number visit e ≡ true)
          ⊎ Has number visit (taken (history e.queue es)))
      at_own =
          let more = has_more number visit (taken (history e.queue es))
          (taken_by e.event e.reply) in (
            (λ has. elim (more.0 (subst (λ cs. Has number visit cs) whole has)) [
              | inl before ↦ inr before
              | inr now ↦ inl ((here e.event e.reply).1 now)
            ]),
            (λ h. subst (λ cs. Has number visit cs) (sym whole) (elim h [
              | inl is ↦ more.1 (inr ((here e.event e.reply).0 is))
              | inr before ↦ more.1 (inl before)
            ])),
          )
