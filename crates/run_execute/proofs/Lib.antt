-- Beginning    before the first step
-- Walking      the run's loop
pub mod Beginning
pub mod Walking
