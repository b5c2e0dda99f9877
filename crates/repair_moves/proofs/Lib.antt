mod Worked
mod Known
mod Alike
