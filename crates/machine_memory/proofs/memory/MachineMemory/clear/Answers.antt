use Rattle.machine_memory.specs.Memory.{frame_at, live_count}
use Rattle.machine_memory.proofs.memory.MachineMemory.clear.Goals as goal

pub returns-then-is_open-clause-stands : goal.returns-then-is_open-clause-stands
unfolding frame_at live_count
returns-then-is_open-clause-stands c = λ d l st. c.clear_open.ensures.stands d l (record { is_live = st.is_live; layout = st.layout; closed = st.closed })

pub returns-else-is_open-clause-stands : goal.returns-else-is_open-clause-stands
unfolding frame_at live_count
returns-else-is_open-clause-stands c = λ d l st. c.clear_closed.ensures.stands d l (record { is_live = st.is_live; layout = st.layout; closed = st.closed })
