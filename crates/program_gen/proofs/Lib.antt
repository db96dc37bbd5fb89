mod Drawing
mod Worked
