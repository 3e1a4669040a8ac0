-- The notice that is read of bytes is what their exact text tells.
use Rattle.std.proofs.Common.{◌≡◌, ◌∙◌, ℕ, List, Option, Some, None, refl, sym, ap}
use Rattle.std.specs.Prelude.{◌↔◌, Result, Ok, Err, IfOk, IfSome, IsNone, option_map}
use Rattle.nfqa_msgs.specs.declared.notice.Notice.{Notice}
use Rattle.nfqa_msgs.specs.NoticeWriting.{Told, FitsTold, notice_text}
use Rattle.nfqa_msgs.specs.NoticeMeaning.{notice_of, IsNoNotice}
use Rattle.nfqa_msgs.specs.NoticeTexts.{told_exactly}

-- the notice that the reader finds, or none, is what the exact text tells
pub notice_is : {E : Type 0} (bytes : List ℕ) (result : Result (Option Notice) E) →
    ((told : Told) → FitsTold told → told_exactly (notice_text told) ≡ Some told) →
    ((text : List ℕ) → IsNoNotice text → told_exactly text ≡ None) →
    IfOk result (λ answer. IfSome answer (λ notice.
    (told : Told) × FitsTold told × (bytes ≡ notice_text told) × (notice ≡ notice_of told))) →
    IfOk result (λ answer. IsNone answer ↔ IsNoNotice bytes) →
    IfOk result (λ notice. notice ≡ option_map notice_of (told_exactly bytes))
notice_is bytes (Err e) told nothing found none = tt
notice_is bytes (Ok None) told nothing found none =
    sym (ap (option_map notice_of) (nothing bytes (none.0 refl)))
notice_is bytes (Ok (Some notice)) told nothing found none =
    let what : Told = found.0 in
    let fit : FitsTold what = found.1 in
    let is : bytes ≡ notice_text what = found.2 in
    let same : notice ≡ notice_of what = found.3 in
    let exact : told_exactly bytes ≡ Some what = ap told_exactly is ∙ told what fit in
    ap (λ (n : Notice). Some n) same ∙ sym (ap (option_map notice_of) exact)
