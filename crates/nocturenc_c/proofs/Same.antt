-- The exports have the contracts of the library's functions that they call: what each asks of its caller and what it allows is the same, as
-- the prover reads both. So what is said of the library's functions (crates/demands) is said of the exports.
use mathlib.Core.Path.{◌≡◌, refl}
use Rattle.nocturenc.proofs.exported as library
use Rattle.nocturenc_c.proofs as archive

pub judge-asks : archive.nocturenc_judge.Reads.Pre ≡ library.nocturenc_judge.Reads.Pre
judge-asks = refl

pub judge-allows : archive.nocturenc_judge.Reads.Post ≡ library.nocturenc_judge.Reads.Post
judge-allows = refl

pub order-asks : archive.nocturenc_order.Reads.Pre ≡ library.nocturenc_order.Reads.Pre
order-asks = refl

pub order-allows : archive.nocturenc_order.Reads.Post ≡ library.nocturenc_order.Reads.Post
order-allows = refl

pub transition-asks : archive.nocturenc_transition.Reads.Pre ≡ library.nocturenc_transition.Reads.Pre
transition-asks = refl

pub transition-allows : archive.nocturenc_transition.Reads.Post ≡ library.nocturenc_transition.Reads.Post
transition-allows = refl

pub assignments-asks : archive.nocturenc_assignments.Reads.Pre ≡ library.nocturenc_assignments.Reads.Pre
assignments-asks = refl

pub assignments-allows : archive.nocturenc_assignments.Reads.Post ≡ library.nocturenc_assignments.Reads.Post
assignments-allows = refl
