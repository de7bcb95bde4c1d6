use Rattle.std.proofs.Common.{◌≡◌, ◌*◌, ◌/◌, ◌≤◌, ℕ, arith}
use Rattle.std.proofs.Math.Nat.{div-le_self, mul-div-le, mul-le-mul_left, mul_left_comm}
use Rattle.filing_timing.proofs.filing.begin.Goals as goal

pub overflow_mul-crew : goal.overflow_mul-crew
overflow_mul-crew c =
    let a = c.args in
    let all : a.lists * (256 * a.chunks / a.threads) ≤ a.lists * (256 * a.chunks) = mul-le-mul_left a.lists (div-le_self (256 * a.chunks) a.threads) in
    let turned : a.lists * (256 * a.chunks) ≡ 256 * (a.lists * a.chunks) = mul_left_comm a.lists 256 a.chunks in
    omega (arith, all, turned, c.requires.all)

pub hire-requires : goal.hire-requires
hire-requires c =
    let a = c.args in
    let slots : ℕ = a.threads * (256 * a.chunks / a.threads) in
    let fits : slots ≤ 256 * a.chunks = mul-div-le (256 * a.chunks) a.threads in
    let all : a.lists * slots ≤ a.lists * (256 * a.chunks) = mul-le-mul_left a.lists fits in
    let turned : a.lists * (256 * a.chunks) ≡ 256 * (a.lists * a.chunks) = mul_left_comm a.lists 256 a.chunks in
    let most = c.requires.all in
    let few = c.requires.threads.1 in
    record { laid_out = (a.chunks, c.in_ok-shared.ensures.laid_out, (fits, omega (arith, all, turned, most), omega (arith, few))) }
