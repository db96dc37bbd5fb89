mod StartLemmas
mod Worked
