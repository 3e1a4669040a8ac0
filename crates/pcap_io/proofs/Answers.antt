-- What an answer that is a value or a fault of the text says of each value and each fault that the
-- text has.
use Rattle.std.proofs.Common.{◌≡◌, ◌≢◌, ℕ, List, Result, Ok, Err, ap}
use Rattle.std.specs.Prelude.{IfOk, IfErr}
use Rattle.pcap_io.specs.declared.capture.Capture.{Capture}
use Rattle.pcap_io.specs.declared.fault.CaptureFault.{CaptureFault}
use Rattle.pcap_io.specs.declared.fault.CaptureFault.TheVariants.{Magic, Pcapng, Version, LinkType}
use Rattle.pcap_io.specs.declared.fault.CaptureFault.TheVariants.{Cut, TooLong, NoMemory}
use Rattle.pcap_io.specs.Text.{IsCapture}
use Rattle.pcap_io.specs.Reading.{Fails, Gives, IsFault}
use Rattle.pcap_io.proofs.WholeFile.{one_capture, one_fault, never_both}

fails_when : {A : Type 0} (fault : CaptureFault) (wanted : Result A CaptureFault) →
    (fault ≢ NoMemory → wanted ≡ Err fault) → Fails fault wanted
fails_when NoMemory wanted h = tt
fails_when Magic wanted h = h (λ e. cc)
fails_when Pcapng wanted h = h (λ e. cc)
fails_when Version wanted h = h (λ e. cc)
fails_when (LinkType link) wanted h = h (λ e. cc)
fails_when (Cut frame at) wanted h = h (λ e. cc)
fails_when (TooLong frame length) wanted h = h (λ e. cc)

pub gives_value : (text : List ℕ) (r : Result Capture CaptureFault) →
    IfOk r (λ c. IsCapture text c) → IfErr r (λ fault. fault ≢ NoMemory → IsFault text fault)
    → (c : Capture) → IsCapture text c → Gives r (Ok c)
gives_value text (Ok d) found fault c w = ap (λ (x : Capture). Ok x) (one_capture text c d w found)
gives_value text (Err f) found fault c w =
    fails_when f (Ok c) (λ known. absurd (never_both text c f w (fault known)))

pub gives_fault : (text : List ℕ) (r : Result Capture CaptureFault) →
    IfOk r (λ c. IsCapture text c) → IfErr r (λ fault. fault ≢ NoMemory → IsFault text fault)
    → (f : CaptureFault) → IsFault text f → Gives r (Err f)
gives_fault text (Ok d) found fault f w = absurd (never_both text d f found w)
gives_fault text (Err g) found fault f w =
    fails_when g (Err f) (λ known. ap (λ (x : CaptureFault). Err x)
    (one_fault text f g w (fault known)))
